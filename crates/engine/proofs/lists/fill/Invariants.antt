use mathlib.Core.Path.{◌≡◌}
use Prim.Native.Nat.{ℕ, ◌≤◌, ◌<◌}
use lib.ListN.{length, get_or}
use Rattle.engine.proofs.lists.fill.Given as goal

abbrev pub invariant-loop-x : goal.invariant-loop-x
invariant-loop-x l = (length l.out ≡ length l.initial.out) × (l.q ≤ l.x) × ((k : ℕ) → k < l.q → get_or l.out k 0 ≡ get_or l.initial.out k 0) × ((k : ℕ) → l.q ≤ k → k < l.x → get_or l.out k 0 ≡ 0) × ((k : ℕ) → l.x ≤ k → get_or l.out k 0 ≡ get_or l.initial.out k 0)
