-- Each line goes after those of the smaller sizes.
use native.Mathlib.Omega.{arith}
use Rattle.sheet_text.proofs.sheet.Lines.{takes_no_lines, takes_line}
use Rattle.sheet_text.proofs.sheet.put_lines.Goals as goal

pub loop-m-init : goal.loop-m-init
loop-m-init c = (omega arith, takes_no_lines _)

pub loop-m-preserved : goal.loop-m-preserved
loop-m-preserved c = (omega arith, takes_line _ _ (omega arith) c.loop-m.invariant.1 c.put_line.ensures.takes)
