use Prim.Native.Nat.{ℕ, ◌+◌, ◌-◌, ◌≤◌}
use lib.ListN.{length}
use Rattle.card.specs.Falling.{Falling}
use Rattle.engine.specs.Lists.{Begins, Over, CursorAt}
use Rattle.engine.proofs.lists.Cursor.at.Given as goal

abbrev pub invariant-loop-x : goal.invariant-loop-x
invariant-loop-x l =
    Over l.list l.n l.x × (l.x.passed ≤ length l.list + 1)
    × ((J : ℕ → ℕ) → Falling J → Begins l.list J l.n → l.t ≤ l.n → (u : ℕ) × (u ≤ l.t) × CursorAt J l.n u l.x)

abbrev pub decreases-loop-x : goal.decreases-loop-x
decreases-loop-x l = length l.list - l.x.passed
