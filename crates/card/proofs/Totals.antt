-- The stretches of all blocks: read off the largest card, and their bound.
use mathlib.Core.Path.{◌≡◌, refl, ◌∙◌}
use mathlib.Core.Bool.{cond}
use mathlib.Core.Logic.{◌≢◌}
use mathlib.Core.List.{List, [], ◌∷◌}
use Prim.Native.Nat.{ℕ, zero, suc, ◌+◌, ◌-◌, ◌*◌, ◌/◌, ◌≤◌, ◌<◌}
use native.Mathlib.Omega.{arith}
use native.Mathlib.Nat.{add-suc, add-zero}
use lib.Dec.{eqb}
use Rattle.terms.specs.Reads.{Read}
use Rattle.card.specs.Rule.{place}
use Rattle.card.specs.Run.{card_after}
use Rattle.card.specs.Stretches.{places_of, stretches, blocks_of, sum_over, largest_over, total, most_of_one, half}
use Rattle.card.specs.Falling.{Falling}
use Rattle.card.proofs.Tests.{by_lt, by_eq, tests, here, here_one, here_some, some_here}
use Rattle.card.proofs.Inclusion.{card_apart, length_card}
use Rattle.card.proofs.Blocks.{sum_among, sum_same, sum_less, sum_ones, largest_of, largest_within, largest_same, apart_blocks, some_blocks, card_blocks}
use Rattle.card.proofs.StretchBounds.{starts_here, places_fall, stretches_none, stretches_half}

-- ---- read off the largest card

module _ (N : ℕ) (rs : List Read) where
  -- the stretches of what stands at a place, where that is a block
  abbrev own : ℕ → ℕ
  own x = cond (eqb x 0) 0 (stretches (places_of rs x) N)

  own_block : (x : ℕ) → 0 < place (blocks_of rs) x → stretches (places_of rs x) N ≡ own x
  own_block x h = let k = some_blocks rs x h in let e : x ≢ 0 = omega arith in simp tests

  -- only a block of the largest card has a stretch, and it is a block of the reads
  own_some : (x : ℕ) → 0 < own x → (0 < place (card_after N rs) x) × (0 < place (blocks_of rs) x)
  own_some x h =
      by_eq x 0
      (λ e. absurd (let g = simp tests at h in omega arith))
      (λ e. let g = simp tests at h in
      let z : 0 < x = omega arith in
      let p : 0 < place (card_after N rs) x = by_eq (place (card_after N rs) x) 0 (λ f. absurd (omega (arith, stretches_none (places_of rs x) (places_fall rs x z) N f))) (λ f. omega arith) in
      (p, card_blocks N rs x z p))

  -- the total
  pub total_places : total N rs ≡ sum_over (λ x. cond (eqb x 0) 0 (stretches (places_of rs x) N)) (card_after N rs)
  unfolding total
  total_places =
      let l = sum_among own refl (blocks_of rs) (card_after N rs) (apart_blocks rs) (λ x h i. (own_some x h).0) in
      let m = sum_among own refl (card_after N rs) (blocks_of rs) (card_apart N rs) (λ x h i. (own_some x h).1) in
      sum_same (λ x. stretches (places_of rs x) N) own (blocks_of rs) own_block ∙ omega arith

  -- a block of the one list has no more stretches than the most of the other
  most_among : (l m : List ℕ) → ((x : ℕ) → 0 < own x → 0 < place m x) → largest_over own l ≤ largest_over own m
  most_among l m h = largest_within own l (largest_over own m) (λ x i. by_lt 0 (own x) (λ a. largest_of own m x (h x a)) (λ a. omega arith))

  -- the most of one block
  pub most_places : most_of_one N rs ≡ largest_over (λ x. cond (eqb x 0) 0 (stretches (places_of rs x) N)) (card_after N rs)
  unfolding most_of_one
  most_places =
      let l = most_among (blocks_of rs) (card_after N rs) (λ x h. (own_some x h).0) in
      let m = most_among (card_after N rs) (blocks_of rs) (λ x h. (own_some x h).1) in
      largest_same (λ x. stretches (places_of rs x) N) own (blocks_of rs) own_block ∙ omega arith

-- ---- the bound

-- a sum over 0 to n - 1
abbrev sum : ℕ → (ℕ → ℕ) → ℕ
sum zero f = 0
sum (suc n) f = sum n f + f n

sum_le : (n : ℕ) (f g : ℕ → ℕ) → ((i : ℕ) → f i ≤ g i) → sum n f ≤ sum n g
sum_le zero f g h = omega arith
sum_le (suc n) f g h = omega (arith, sum_le n f g h, h n)

sum_const : (n k : ℕ) → sum n (λ i. k) ≡ n * k
sum_const zero k = omega arith
sum_const (suc n) k = omega (arith, sum_const n k)

over_zero : (l : List ℕ) → sum_over (λ x. 0) l ≡ 0
over_zero [] = refl
over_zero (y ∷ ys) = omega (arith, over_zero ys)

over_add : (f g : ℕ → ℕ) (l : List ℕ) → sum_over (λ x. f x + g x) l ≡ sum_over f l + sum_over g l
over_add f g [] = refl
over_add f g (y ∷ ys) = omega (arith, over_add f g ys)

swap : (n : ℕ) (f : ℕ → ℕ → ℕ) (l : List ℕ) → sum_over (λ x. sum n (f x)) l ≡ sum n (λ t. sum_over (λ x. f x t) l)
swap zero f l = over_zero l
swap (suc n) f l = omega (arith, swap n f l, over_add (λ x. sum n (f x)) (λ x. f x n) l)

module _ (f : ℕ → ℕ) (fall : Falling f) where
  stays : (a t : ℕ) → 0 < f a → 0 < f (a + t)
  stays a zero h = rw add-zero h
  stays a (suc t) h = rw add-suc (fall.falls (a + t) (stays a t h)).0

  stretches_from : (a h : ℕ) → stretches f (a + h) ≤ stretches f a + sum h (λ t. here (f (suc (a + t))))
  stretches_from a zero = simp add-zero (omega arith)
  stretches_from a (suc h) = rw add-suc (omega (arith, stretches_from a h, starts_here (f (a + h)) (f (suc (a + h)))))

  -- no more stretches than sizes among the last h at which the block is present, where there are at most h
  stretches_last : (a h : ℕ) → stretches f (a + h) ≤ h → stretches f (a + h) ≤ sum h (λ t. here (f (suc (a + t))))
  stretches_last a h b =
      by_eq (f a) 0
      (λ p. omega (arith, stretches_from a h, stretches_none f fall a p))
      (λ p. omega (arith, b, sum_le h (λ t. 1) (λ t. here (f (suc (a + t)))) (λ t. let q = rw add-suc at (stays a (suc t) (omega arith)) in omega (arith, some_here (f (suc (a + t))) q)), sum_const h 1))

module _ (rs : List Read) where
  -- 1 where a block is present at size s
  abbrev here_at : ℕ → ℕ → ℕ
  here_at x s = cond (eqb x 0) 0 (here (places_of rs x s))

  at_block : (x s : ℕ) → 0 < x → here_at x s ≡ here (places_of rs x s)
  at_block x s z = let e : x ≢ 0 = omega arith in simp tests

  at_one : (x s : ℕ) → here_at x s ≤ 1
  at_one x s = by_eq x 0 (λ e. simp tests (omega arith)) (λ e. simp tests (here_one (places_of rs x s)))

  at_some : (x s : ℕ) → 0 < here_at x s → 0 < places_of rs x s
  at_some x s h = by_eq x 0 (λ e. absurd (let g = simp tests at h in omega arith)) (λ e. here_some (places_of rs x s) (simp tests at h))

  -- at most s blocks are present at size s
  at_most : (s : ℕ) → sum_over (λ x. here_at x s) (blocks_of rs) ≤ s
  at_most s =
      omega (
        arith,
        length_card s rs,
        sum_among (λ x. here_at x s) refl (blocks_of rs) (card_after s rs) (apart_blocks rs) (λ x h i. at_some x s h),
        sum_ones (λ x. here_at x s) (λ x. at_one x s) (card_after s rs),
      )

  -- the last h sizes
  total_last : (a h : ℕ) → half (a + h) ≤ h → total (a + h) rs ≤ sum h (λ t. suc (a + t))
  unfolding total
  total_last a h b =
      let one = sum_less (λ x. stretches (places_of rs x) (a + h)) (λ x. sum h (λ t. here_at x (suc (a + t)))) (blocks_of rs)
      (λ x i. let z = some_blocks rs x i in
      let l = stretches_last (places_of rs x) (places_fall rs x z) a h (omega (arith, b, stretches_half rs x (a + h) z)) in
      omega (arith, l, sum_le h (λ t. here (places_of rs x (suc (a + t)))) (λ t. here_at x (suc (a + t))) (λ t. omega (arith, at_block x (suc (a + t)) z)))) in
      omega (arith, one, swap h (λ x t. here_at x (suc (a + t))) (blocks_of rs), sum_le h (λ t. sum_over (λ x. here_at x (suc (a + t))) (blocks_of rs)) (λ t. suc (a + t)) (λ t. at_most (suc (a + t))))

-- twice the sum of the last h sizes
ends : (a h : ℕ) → 2 * sum h (λ t. suc (a + t)) ≡ 2 * (a * h) + h * (h + 1)
ends a zero = omega arith
ends a (suc h) = omega (arith, ends a h)

bound : (rs : List Read) (N h : ℕ) → h ≡ half N → total N rs ≤ h * (h + 1) / 2 + (N - h) * h
bound rs N h e =
    let b : N - h + h ≡ N = omega arith in
    let t = rw b at (total_last rs (N - h) h (omega arith)) in
    omega (arith, t, ends (N - h) h)

-- all blocks together have no more stretches than this
pub total_bound : (N : ℕ) (rs : List Read) → total N rs ≤ half N * (half N + 1) / 2 + (N - half N) * half N
total_bound N rs = bound rs N (half N) refl
