use mathlib.Core.Path.{◌≡◌}
use Prim.Native.Nat.{◌+◌, ◌<◌}
use lib.ListN.{length}
use Rattle.trace.specs.Spelling.{spelling}
use Rattle.trace.specs.Bounds.{number_limit}
use Rattle.trace.proofs.spelling.number_length.Given as goal

abbrev pub invariant-loop-rest : goal.invariant-loop-rest
invariant-loop-rest l =
    (l.rest < number_limit) × (l.total + length (spelling l.rest) ≡ 1 + length (spelling l.value))

abbrev pub decreases-loop-rest : goal.decreases-loop-rest
decreases-loop-rest l = l.rest
