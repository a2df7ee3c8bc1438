use mathlib.Core.Path.{◌≡◌}
use Prim.Native.Nat.{ℕ, ◌+◌, ◌-◌, ◌≤◌}
use lib.ListN.{length, get_or}
use Rattle.card.specs.Falling.{Falling}
use Rattle.engine.specs.Moves.{other_after}
use Rattle.engine.specs.Rows.{pairs}
use Rattle.engine.specs.Lists.{Begins, Over}
use Rattle.engine.proofs.lists.PairLaws.{Merging}
use Rattle.engine.proofs.lists.merge.Given as goal

abbrev pub invariant-loop-t : goal.invariant-loop-t
invariant-loop-t l =
    Over l.list l.n l.x × Over l.other l.n l.y × (l.x.passed ≤ length l.list + 1 + (l.t + l.t)) × (l.y.passed ≤ l.t + l.t) × (l.q ≤ length l.out) × (length l.out ≡ length l.initial.out) × ((k : ℕ) → l.q ≤ k → get_or l.out k 0 ≡ get_or l.initial.out k 0)
    × ((J L : ℕ → ℕ) → Falling J → Falling L → Begins l.list J l.n → Begins l.other L l.n → length (pairs (other_after J l.p L) l.n) ≤ length l.initial.out → Merging J L l.p l.n l.out l.t l.q l.last l.x.passed l.x.place l.x.next l.y.passed l.y.place l.y.next)

abbrev pub decreases-loop-t : goal.decreases-loop-t
decreases-loop-t l = l.n - l.t
