use Prim.Native.Nat.{ℕ, ◌-◌, ◌*◌, ◌^◌, ◌≤◌, ◌<◌}
use Rattle.engine.specs.Renewals.{Grown}
use Rattle.engine.specs.Sweeps.{Leads}
use Rattle.engine.proofs.sweeps.down.Given as goal

abbrev pub invariant-loop-above : goal.invariant-loop-above
invariant-loop-above l = (l.read.p ≤ l.above) × Grown l.initial.sum l.sum ((l.bottom - l.above) * 2 ^ 16) × ((a : ℕ) → a < l.read.p → Leads l.list l.read a l.bottom l.initial.sum l.initial.area a l.above l.sum l.area)
