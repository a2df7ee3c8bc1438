-- `supharoek::told::show` meets its contract: the values so far are put. Assumes nothing.
use native.Mathlib.Omega.{arith}
use Rattle.sheet_text.proofs.Puts.{put_none, put_length, next_word, all_words, put_shown}
use Rattle.supharoek.proofs.told.show.Goals as goal

pub loop-at-init : goal.loop-at-init
loop-at-init c = put_none

pub loop-at-preserved : goal.loop-at-preserved
loop-at-preserved c = search next_word

pub shape_of-out : goal.shape_of-out
shape_of-out c = put_length c.loop-at.invariant

pub returns : goal.returns
returns c = let l = c.loop-at in put_shown (all_words _ l.at l.invariant (omega arith))
