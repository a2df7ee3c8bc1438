-- Plain LRU: where every read asks for the top, a card is the front of a larger one, and a block of the card has one stretch.
use mathlib.Core.Path.{◌≡◌, refl, sym, ap, ap₂, ◌∙◌}
use mathlib.Core.Bool.{cond}
use mathlib.Core.Logic.{◌≢◌}
use mathlib.Core.List.{List, [], ◌∷◌, ◌++◌}
use Prim.Native.Nat.{ℕ, zero, suc, ◌+◌, ◌≤◌, ◌<◌}
use native.Mathlib.Omega.{arith}
use lib.Dec.{leb, eqb}
use lib.ListN.{length, take, length-take, length-replicate}
use lib.Seq.{take-append-le, take-take, length-take-le}
use Rattle.terms.specs.Reads.{Read}
use Rattle.card.specs.Rule.{place, after_read}
use Rattle.card.specs.Run.{block_read, asked, empty, next, run, card_after}
use Rattle.card.specs.Stretches.{places_of, starts, stretches, largest_over, total, most_of_one}
use Rattle.card.proofs.Tests.{by_lt, by_eq, tests, here, here_one, some_here}
use Rattle.card.proofs.OutcomeCases.{place_in}
use Rattle.card.proofs.TwoMoves.Moves.{depth, without, moved, depth_take, depth_le, place_there, place_absent}
use Rattle.card.proofs.TwoMoves.{two_moves}
use Rattle.card.proofs.Asked.{length_next}
use Rattle.card.proofs.Inclusion.{length_card}
use Rattle.card.proofs.Blocks.{sum_same, largest_same}
use Rattle.card.proofs.Totals.{total_places, most_places}
use Rattle.card.proofs.Full.{full}

-- ---- a card is the front of a larger one

front_without : (n x : ℕ) (d : List ℕ) → n < length d → take n (without x d ++ (0 ∷ [])) ≡ take n (without x (take (suc n) d) ++ (0 ∷ []))
front_without zero x d h = refl
front_without (suc n) x [] h = absurd (omega arith)
front_without (suc n) x (y ∷ ys) h =
    by_eq y x
    (λ e. simp tests (take-append-le (suc n) ys (0 ∷ []) (omega arith)
    ∙ sym (take-append-le (suc n) (take (suc n) ys) (0 ∷ []) (omega (arith, length-take (suc n) ys)) ∙ take-take (suc n) (suc n) ys (omega arith))))
    (λ e. simp tests (ap (λ (r : List ℕ). y ∷ r) (front_without n x ys (omega arith))))

front_moved : (m x : ℕ) (d : List ℕ) → m ≤ length d → moved (take m d) x 0 ≡ take m (moved d x 0)
unfolding moved
front_moved zero x d h = refl
front_moved (suc m) x d h =
    rw (length-take-le (suc m) d h)
    (ap (λ (r : List ℕ). x ∷ r) (sym (front_without m x d h)) ∙ sym (take-take (suc m) (length d) (x ∷ (without x d ++ (0 ∷ []))) h))

-- one read to the top
pub front_after : (m x : ℕ) (d : List ℕ) → m ≤ length d → after_read (take m d) x 1 ≡ take m (after_read d x 1)
front_after m x d h = let l : 1 ≤ 1 = omega arith in two_moves (take m d) x 1 l ∙ front_moved m x d h ∙ ap (take m) (sym (two_moves d x 1 l))

-- every read asks for the top, at every size
abbrev pub Plain : List Read → Type 0
Plain [] = Unit {0}
Plain (r ∷ rs) = ((m : ℕ) → asked m r ≡ 1) × Plain rs

front_next : (m : ℕ) (d : List ℕ) (r : Read) → ((k : ℕ) → asked k r ≡ 1) → m ≤ length d → next (take m d) r ≡ take m (next d r)
front_next m d r e h = rw (e (length (take m d)), e (length d)) (front_after m (block_read r) d h)

front_run : (rs : List Read) (m : ℕ) (d : List ℕ) → Plain rs → m ≤ length d → run (take m d) rs ≡ take m (run d rs)
front_run [] m d p h = refl
front_run (r ∷ rs) m d p h =
    ap (λ (c : List ℕ). run c rs) (front_next m d r p.0 h)
    ∙ front_run rs m (next d r) p.1 (omega (arith, length_next d r))

take_empty : (m n : ℕ) → m ≤ n → take m (empty n) ≡ empty m
take_empty zero n h = refl
take_empty (suc m) zero h = absurd (omega arith)
take_empty (suc m) (suc n) h = ap (λ (r : List ℕ). 0 ∷ r) (take_empty m n (omega arith))

-- the card of a smaller size is the first places of that of a larger
pub front_card : (m n : ℕ) (rs : List Read) → Plain rs → m ≤ n → card_after m rs ≡ take m (card_after n rs)
front_card m n rs p h = rw (← take_empty m n h) (front_run rs m (empty n) p (omega (arith, length-replicate {A = ℕ} n 0)))

-- ---- a block has one stretch

-- a place, where it is within the first n
abbrev pub within_first : (n j : ℕ) → ℕ
within_first n j = cond (leb j n) j 0

place_take : (n : ℕ) (c : List ℕ) (x : ℕ) → n ≤ length c → place (take n c) x ≡ within_first n (place c x)
place_take n c x h =
    let d = depth_take n c x in
    let l = length-take n c in
    by_lt (depth c x) (length c)
    (λ a. by_lt (depth c x) n
    (λ b. let e = place_there c x a in let i : place c x ≤ n = omega arith in place_there (take n c) x (omega arith) ∙ simp tests (omega arith))
    (λ b. let e = place_there c x a in let i : n < place c x = omega arith in place_absent (take n c) x (omega arith) ∙ simp tests))
    (λ a. let e = place_absent c x (omega (arith, depth_le c x)) in place_absent (take n c) x (omega (arith, depth_le c x)) ∙ by_lt n (place c x) (λ i. simp tests) (λ i. simp tests (omega arith)))

-- the places of a block, from its place in the largest card
pub plain_places : (rs : List Read) (N x s : ℕ) → Plain rs → s ≤ N → places_of rs x s ≡ within_first s (places_of rs x N)
plain_places rs N x s p h = ap (λ (c : List ℕ). place c x) (front_card s N rs p h) ∙ place_take s (card_after N rs) x (omega (arith, length_card N rs))

stretches_same : (f g : ℕ → ℕ) (N : ℕ) → ((s : ℕ) → s ≤ N → f s ≡ g s) → stretches f N ≡ stretches g N
stretches_same f g zero h = refl
stretches_same f g (suc n) h =
    ap₂ ◌+◌ (stretches_same f g n (λ s k. h s (omega arith))) (ap₂ starts (h n (omega arith)) (h (suc n) (omega arith)))

-- a block at one place in all sizes that have it
stretches_flat : (j n : ℕ) → stretches (λ s. within_first s j) n ≡ cond (leb j n) (here j) 0
stretches_flat j zero = by_eq j 0 (λ e. let h : j ≤ 0 = omega arith in simp tests) (λ e. let h : 0 < j = omega arith in simp tests)
stretches_flat j (suc n) =
    by_eq j 0
    (λ e. let h : j ≤ n = omega arith in let i : j ≤ suc n = omega arith in let ih = simp tests at (stretches_flat j n) in simp tests (omega (arith, ih)))
    (λ e. by_lt n j
    (λ h. let ih = simp tests at (stretches_flat j n) in by_eq j (suc n)
    (λ f. let i : j ≤ suc n = omega arith in let k : j ≢ 0 = omega arith in simp tests (omega (arith, ih)))
    (λ f. let i : suc n < j = omega arith in simp tests (omega (arith, ih))))
    (λ h. let ih = simp tests at (stretches_flat j n) in let i : j ≤ suc n = omega arith in simp tests (omega (arith, ih))))

-- a block has one stretch where it is in the largest card, and none where it is not
pub plain_one : (rs : List Read) (N x : ℕ) → Plain rs → stretches (places_of rs x) N ≡ here (places_of rs x N)
plain_one rs N x p =
    let f = place_in (card_after N rs) x in
    let l = length_card N rs in
    let h : places_of rs x N ≤ N = omega arith in
    stretches_same (places_of rs x) (λ s. within_first s (places_of rs x N)) N (λ s k. plain_places rs N x s p k) ∙ stretches_flat (places_of rs x N) N ∙ simp tests

largest_here : (c : List ℕ) → largest_over here c ≡ here (full c)
largest_here [] = refl
largest_here (y ∷ ys) =
    let ih = largest_here ys in
    by_eq y 0
    (λ e. let i : full (y ∷ ys) ≡ full ys = simp tests (omega arith) in rw i (simp tests (omega arith)))
    (λ e. let i = some_here y (omega arith) in omega (arith, ih, i, here_one (full ys), some_here (here y + full ys) (omega arith)))

module _ (rs : List Read) (N : ℕ) (p : Plain rs) where
  one_each : (x : ℕ) → 0 < places_of rs x N → cond (eqb x 0) 0 (stretches (places_of rs x) N) ≡ here x
  one_each x h = by_eq x 0 (λ e. simp tests) (λ e. simp tests (plain_one rs N x p ∙ some_here (places_of rs x N) h))

  -- the total is the number of full places
  pub plain_total : total N rs ≡ full (card_after N rs)
  plain_total = total_places N rs ∙ sum_same (λ x. cond (eqb x 0) 0 (stretches (places_of rs x) N)) here (card_after N rs) one_each

  -- and one block has one stretch at most
  pub plain_most : most_of_one N rs ≡ here (full (card_after N rs))
  plain_most = most_places N rs ∙ largest_same (λ x. cond (eqb x 0) 0 (stretches (places_of rs x) N)) here (card_after N rs) one_each ∙ largest_here (card_after N rs)
