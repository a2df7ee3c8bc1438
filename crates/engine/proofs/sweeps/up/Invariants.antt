use Prim.Native.Nat.{◌-◌, ◌*◌, ◌^◌}
use Rattle.engine.specs.Renewals.{Grown}
use Rattle.engine.specs.Sweeps.{Leads}
use Rattle.engine.proofs.sweeps.up.Given as goal

abbrev pub invariant-loop-k : goal.invariant-loop-k
invariant-loop-k l = Grown l.initial.sum l.sum ((l.k - l.read.j) * 2 ^ 16) × Leads l.list l.read (l.read.j - 1) l.bottom l.initial.sum l.initial.area (l.k - 1) l.bottom l.sum l.area
