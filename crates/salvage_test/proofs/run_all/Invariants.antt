-- `salvage_test::run_all` ends: each case takes its bytes.
use Rattle.std.proofs.Common.{length}
use Rattle.salvage_test.proofs.run_all.Given as goal

abbrev pub decreases-loop-case : goal.decreases-loop-case
decreases-loop-case g l = length l.left
