-- `supharoek::told::put` meets its contract: past the end nothing is set. Assumes nothing.
use mathlib.Core.Path.{sym}
use lib.Seq.{set_out}
use Rattle.supharoek.proofs.told.put.Goals as goal

pub returns-else-at-out : goal.returns-else-at-out
returns-else-at-out c = sym (set_out c.args.out.now c.args.at c.args.value c.if-at-out.false)
