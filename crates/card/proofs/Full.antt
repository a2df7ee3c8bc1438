-- How many places of a card are full: inserts less forced evictions less hit bypasses.
use mathlib.Core.Path.{◌≡◌, refl, ap, ◌∙◌}
use mathlib.Core.Bool.{cond}
use mathlib.Core.List.{List, [], ◌∷◌, ◌++◌}
use Prim.Native.Nat.{ℕ, zero, suc, ◌+◌, ◌-◌, ◌≤◌, ◌<◌}
use native.Mathlib.Omega.{arith}
use lib.Dec.{eqb}
use borrow.Author.Tests.{ne_eqb}
use lib.ListN.{length, get_or, take, length-take}
use Rattle.terms.specs.Reads.{Read}
use Rattle.card.specs.Rule.{place, outcome_on, after_read}
use Rattle.card.specs.Run.{block_read, asked, empty, next, run, card_after, outcomes, occurrences, count}
use Rattle.card.specs.Stretches.{sum_over}
use Rattle.card.proofs.Tests.{by_eq, tests, here, some_here}
use Rattle.card.proofs.OutcomeCases.{by_outcome, place_in}
use Rattle.card.proofs.TwoMoves.Shifts.{out_hi}
use Rattle.card.proofs.TwoMoves.Moves.{depth, without, insert_at, moved, length_without, depth_there, depth_absent}
use Rattle.card.proofs.TwoMoves.Forms.{hit_in, hit_by, miss_in, miss_by}
use Rattle.card.proofs.TwoMoves.{two_moves}
use Rattle.card.proofs.Asked.{asked_some}
use Rattle.card.proofs.Inclusion.{key_some}
use Rattle.card.proofs.Outcomes.{same}

-- the full places of a card
abbrev pub full : List ℕ → ℕ
full c = sum_over here c

full_without : (c : List ℕ) (x : ℕ) → 0 < x → depth c x < length c → full c ≡ suc (full (without x c))
full_without [] x z h = absurd (omega arith)
full_without (y ∷ ys) x z h =
    by_eq y x
    (λ e. let k = some_here y (omega arith) in simp tests (omega arith))
    (λ e. let g = simp tests at h in let ih = full_without ys x z (omega arith) in simp (ne_eqb y x e) (omega arith))

full_insert : (q x : ℕ) (c : List ℕ) → 0 < x → q ≤ length c → full (insert_at q x c) ≡ suc (full c)
full_insert zero x c z h = omega (arith, some_here x z)
full_insert (suc q) x [] z h = absurd (omega arith)
full_insert (suc q) x (y ∷ ys) z h = omega (arith, full_insert q x ys z (omega arith))

full_pad : (c : List ℕ) → full (c ++ (0 ∷ [])) ≡ full c
full_pad [] = refl
full_pad (y ∷ ys) = ap (λ (n : ℕ). here y + n) (full_pad ys)

full_last : (n : ℕ) (c : List ℕ) → length c ≡ suc n → full c ≡ full (take n c) + here (get_or c n 0)
full_last n [] h = absurd (omega arith)
full_last zero (y ∷ []) h = omega arith
full_last zero (y ∷ (z ∷ ys)) h = absurd (omega arith)
full_last (suc n) (y ∷ ys) h = omega (arith, full_last n ys (omega arith))

-- one read: a block that stays, leaves, comes, or passes by
module _ (c : List ℕ) (x p : ℕ) (z : 0 < x) (h : 1 ≤ p) where
  after : full (after_read c x p) ≡ full (moved c x (p - 1))
  after = ap full (two_moves c x p h)

  stays : 0 < place c x → p ≤ length c → full (after_read c x p) ≡ full c
  stays a b =
      let (d, e) = depth_there c x a in
      let l : p - 1 ≤ length (without x c) = omega (arith, length_without c x, out_hi (depth c x) (length c) d) in
      omega (arith, after, ap full (hit_in c x (p - 1) d (omega arith)), full_insert (p - 1) x (without x c) z l, full_without c x z d)

  leaves : 0 < place c x → length c < p → suc (full (after_read c x p)) ≡ full c
  leaves a b =
      let (d, e) = depth_there c x a in
      omega (arith, after, ap full (hit_by c x (p - 1) d (omega arith)), full_pad (without x c), full_without c x z d)

  comes : place c x ≡ 0 → p ≤ length c → full (after_read c x p) + here (get_or c (length c - 1) 0) ≡ suc (full c)
  comes a b =
      omega (
        arith,
        after,
        ap full (miss_in c x (p - 1) (depth_absent c x a) (omega arith)),
        full_insert (p - 1) x (take (length c - 1) c) z (omega (arith, length-take (length c - 1) c)),
        full_last (length c - 1) c (omega arith),
      )

  passes : place c x ≡ 0 → length c < p → full (after_read c x p) ≡ full c
  passes a b = after ∙ ap full (miss_by c x (p - 1) (depth_absent c x a) (omega arith))

-- a forced eviction: an insert that pushes a block out of the last place
abbrev pub forced : List ℕ → (x p : ℕ) → ℕ
forced c x p = cond (eqb (outcome_on c x p) 4) (here (get_or c (length c - 1) 0)) 0

-- what one read changes
pub full_after : (c : List ℕ) (x p : ℕ) → 0 < x → 1 ≤ p
    → full (after_read c x p) + forced c x p + same (outcome_on c x p) 3 ≡ full c + same (outcome_on c x p) 4
full_after c x p z h =
    by_outcome (λ n. full (after_read c x p) + cond (eqb n 4) (here (get_or c (length c - 1) 0)) 0 + same n 3 ≡ full c + same n 4) (length c) (place c x) p
    (λ a b. omega (arith, stays c x p z h a (omega (arith, place_in c x))))
    (λ a b. omega (arith, stays c x p z h a (omega (arith, place_in c x))))
    (λ a b l. omega (arith, stays c x p z h a l))
    (λ a b l. omega (arith, leaves c x p z h a l))
    (λ a l. omega (arith, comes c x p z h a l))
    (λ a l. omega (arith, passes c x p z h a l))

-- the forced evictions of reads
abbrev pub evictions : List ℕ → List Read → ℕ
evictions c [] = 0
evictions c (r ∷ rs) = forced c (block_read r) (asked (length c) r) + evictions (next c r) rs

full_run : (rs : List Read) (c : List ℕ) → full (run c rs) + evictions c rs + occurrences 3 (outcomes c rs) ≡ full c + occurrences 4 (outcomes c rs)
full_run [] c = omega arith
full_run (r ∷ rs) c = omega (arith, full_run rs (next c r), full_after c (block_read r) (asked (length c) r) (key_some r) (asked_some (length c) r))

full_empty : (m : ℕ) → full (empty m) ≡ 0
full_empty zero = refl
full_empty (suc m) = omega (arith, full_empty m)

-- full places are inserts less forced evictions less hit bypasses
pub full_card : (m : ℕ) (rs : List Read) → full (card_after m rs) ≡ count m 4 rs - evictions (empty m) rs - count m 3 rs
full_card m rs = omega (arith, full_run rs (empty m), full_empty m)
