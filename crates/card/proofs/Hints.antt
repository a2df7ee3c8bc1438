-- Reads without a hint: priority 0 acts as 1 on every card, and in all that is told of a run.
use mathlib.Core.Path.{◌≡◌, refl, ap, ap₂, fun_ext, ◌∙◌}
use mathlib.Core.List.{List, [], ◌∷◌, ◌++◌, map-append}
use Prim.Native.Nat.{ℕ}
use native.Mathlib.Omega.{arith}
use lib.ListN.{length}
use Rattle.terms.specs.Reads.{Read}
use Rattle.card.specs.Rule.{place, after_read}
use Rattle.card.specs.Run.{block_read, asked, empty, next, run, card_after, outcomes, occurrences, count}
use Rattle.card.specs.Stretches.{places_of, stretches, blocks_of, sum_over, largest_over, total, most_of_one, largest_after, peak_total, peak_of_one}
use Rattle.card.specs.Hints.{hinted, all_hinted}
use Rattle.card.proofs.Tests.{by_eq, tests}

-- a read asks for the same place with 0 written as 1
pub asked_hinted : (m : ℕ) (r : Read) → asked m (hinted r) ≡ asked m r
unfolding asked
asked_hinted m r = by_eq r.priority 0 (λ e. simp tests (omega arith)) (λ e. simp tests)

-- ---- one size

run_hinted : (rs : List Read) (c : List ℕ) → run c (all_hinted rs) ≡ run c rs
run_hinted [] c = refl
run_hinted (r ∷ rs) c =
    ap (λ (p : ℕ). run (after_read c (block_read r) p) (all_hinted rs)) (asked_hinted (length c) r) ∙ run_hinted rs (next c r)

outcomes_hinted : (rs : List Read) (c : List ℕ) → outcomes c (all_hinted rs) ≡ outcomes c rs
outcomes_hinted [] c = refl
outcomes_hinted (r ∷ rs) c = rw (asked_hinted (length c) r, outcomes_hinted rs (next c r))

-- ---- all sizes

blocks_hinted : (rs : List Read) → blocks_of (all_hinted rs) ≡ blocks_of rs
blocks_hinted [] = refl
blocks_hinted (r ∷ rs) = rw (blocks_hinted rs)

-- the stretches of all blocks, added up or the largest of them
stretches_hinted : (over : (ℕ → ℕ) → List ℕ → ℕ) (N : ℕ) (rs : List Read)
    → over (λ x. stretches (places_of (all_hinted rs) x) N) (blocks_of (all_hinted rs)) ≡ over (λ x. stretches (places_of rs x) N) (blocks_of rs)
stretches_hinted over N rs =
    ap₂ (λ (cards : ℕ → List ℕ). over (λ x. stretches (λ m. place (cards m) x) N)) (fun_ext (λ m. run_hinted rs (empty m))) (blocks_hinted rs)

total_hinted : (N : ℕ) (rs : List Read) → total N (all_hinted rs) ≡ total N rs
unfolding total
total_hinted N rs = stretches_hinted sum_over N rs

most_hinted : (N : ℕ) (rs : List Read) → most_of_one N (all_hinted rs) ≡ most_of_one N rs
unfolding most_of_one
most_hinted N rs = stretches_hinted largest_over N rs

-- what is the same after any reads has the same largest value
module _ (f : List Read → ℕ) (same : (rs : List Read) → f (all_hinted rs) ≡ f rs) where
  largest_hinted : (earlier later : List Read) → largest_after f (all_hinted earlier) (all_hinted later) ≡ largest_after f earlier later
  largest_hinted earlier [] = refl
  largest_hinted earlier (r ∷ rs) = rw (← map-append hinted earlier (r ∷ []), same (earlier ++ (r ∷ [])), largest_hinted (earlier ++ (r ∷ [])) rs)

-- ---- the whole

-- reads, and the same reads with every 0 written as 1, have the same outcomes, counts, places and peaks at every size
pub zero_as_one : (rs : List Read)
    → ((m : ℕ) → outcomes (empty m) (all_hinted rs) ≡ outcomes (empty m) rs)
    × ((m o : ℕ) → count m o (all_hinted rs) ≡ count m o rs)
    × ((m : ℕ) → card_after m (all_hinted rs) ≡ card_after m rs)
    × ((N : ℕ) → peak_total N (all_hinted rs) ≡ peak_total N rs)
    × ((N : ℕ) → peak_of_one N (all_hinted rs) ≡ peak_of_one N rs)
zero_as_one rs = (
  λ m. outcomes_hinted rs (empty m),
  λ m o. ap (occurrences o) (outcomes_hinted rs (empty m)),
  λ m. run_hinted rs (empty m),
  λ N. largest_hinted (total N) (total_hinted N) [] rs,
  λ N. largest_hinted (most_of_one N) (most_hinted N) [] rs,
)
