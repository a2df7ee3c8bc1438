use Prim.Native.Nat.{◌-◌, ◌*◌, ◌^◌}
use Rattle.engine.specs.Renewals.{Grown}
use Rattle.engine.specs.Sweeps.{Leads}
use Rattle.engine.proofs.sweeps.above.Given as goal

abbrev pub invariant-loop-k : goal.invariant-loop-k
invariant-loop-k l = Grown l.initial.sum l.sum ((l.k - 1) * 2 ^ 16) × Leads l.list l.read 0 l.read.n l.initial.sum l.initial.area (l.k - 1) l.read.n l.sum l.area
