-- Each byte goes after those so far.
use native.Mathlib.Omega.{arith}
use Rattle.sheet_text.proofs.Puts.{takes_next}
use Rattle.sheet_text.proofs.text.Text.put_words.Goals as goal

pub loop-byte-preserved : goal.loop-byte-preserved
loop-byte-preserved c = takes_next _ _ c.loop-byte.invariant (omega arith) c.put.ensures
