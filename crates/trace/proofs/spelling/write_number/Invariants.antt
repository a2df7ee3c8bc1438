use mathlib.Core.Path.{◌≡◌}
use Prim.Native.Nat.{◌+◌, ◌<◌}
use lib.ListN.{length}
use Rattle.trace.specs.Spelling.{spelling}
use Rattle.trace.specs.Writing.{put}
use Rattle.trace.specs.Bounds.{number_limit}
use Rattle.trace.proofs.spelling.write_number.Given as goal

abbrev pub invariant-loop-rest : goal.invariant-loop-rest
invariant-loop-rest l =
    (l.rest < number_limit)
    × (l.at + length (spelling l.rest) ≡ length (spelling l.value))
    × (length l.part ≡ length l.initial.part)
    × (put l.part l.at (spelling l.rest) ≡ put l.initial.part 0 (spelling l.value))

abbrev pub decreases-loop-rest : goal.decreases-loop-rest
decreases-loop-rest l = l.rest
