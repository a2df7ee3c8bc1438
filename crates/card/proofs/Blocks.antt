-- Lists of blocks: which are among them, a number of each, and the blocks of reads.
use mathlib.Core.Path.{◌≡◌, refl}
use mathlib.Core.Logic.{◌≢◌}
use mathlib.Core.List.{List, [], ◌∷◌}
use Prim.Native.Nat.{ℕ, zero, suc, ◌+◌, ◌≤◌, ◌<◌}
use native.Mathlib.Omega.{arith}
use lib.ListN.{length, get_or}
use Rattle.terms.specs.Reads.{Read}
use Rattle.card.specs.Rule.{one_lower, place}
use Rattle.card.specs.Run.{block_read, asked, empty, next, run, card_after}
use Rattle.card.specs.Stretches.{blocks_of, sum_over, largest_over}
use Rattle.card.proofs.Tests.{by_lt, by_eq, tests}
use Rattle.card.proofs.TwoMoves.Moves.{without, Apart, place_absent, depth_absent}
use Rattle.card.proofs.AfterRead.{absent_after}
use Rattle.card.proofs.Asked.{asked_some}
use Rattle.card.proofs.Inclusion.{key_some, place_empty}

-- ---- which blocks are among those of a list, and a number of each, added up or the largest

lower_some : (j : ℕ) → 0 < j → 0 < one_lower j
lower_some zero h = h
lower_some (suc j) h = omega arith

some_lower : (j : ℕ) → 0 < one_lower j → 0 < j
some_lower zero h = h
some_lower (suc j) h = omega arith

-- a block is among those of a list where its place is not 0
pub among_head : (y x : ℕ) (ys : List ℕ) → y ≡ x → 0 < place (y ∷ ys) x
among_head y x ys e = simp tests (omega arith)

pub among_tail : (y x : ℕ) (ys : List ℕ) → 0 < place ys x → 0 < place (y ∷ ys) x
among_tail y x ys h = by_eq y x (λ e. among_head y x ys e) (λ e. simp tests (lower_some (place ys x) h))

pub among_rest : (y x : ℕ) (ys : List ℕ) → y ≢ x → 0 < place (y ∷ ys) x → 0 < place ys x
among_rest y x ys n h = some_lower (place ys x) (simp tests at h)

pub among_get_or : (l : List ℕ) (i : ℕ) → i < length l → 0 < place l (get_or l i 0)
among_get_or [] i h = absurd (omega arith)
among_get_or (y ∷ ys) zero h = among_head y y ys refl
among_get_or (y ∷ ys) (suc i) h = among_tail y (get_or ys i 0) ys (among_get_or ys i (omega arith))

among_without : (l : List ℕ) (y x : ℕ) → x ≢ y → 0 < place l x → 0 < place (without y l) x
among_without [] y x n h = h
among_without (z ∷ zs) y x n h =
    by_eq z y
    (λ e. simp tests (among_rest z x zs (omega arith) h))
    (λ e. simp tests (by_eq z x
    (λ f. among_head z x (without y zs) f)
    (λ f. among_tail z x (without y zs) (among_without zs y x n (among_rest z x zs f h)))))

module _ (w : ℕ → ℕ) where
  sum_without : (l : List ℕ) (y : ℕ) → 0 < place l y → sum_over w l ≡ w y + sum_over w (without y l)
  sum_without [] y h = absurd (omega arith)
  sum_without (z ∷ zs) y h =
      by_eq z y
      (λ e. rw e (simp tests))
      (λ e. let ih = sum_without zs y (among_rest z y zs e h) in simp tests (omega arith))

  -- a sum over a list with no block twice is no more than that over a list that has all of its blocks
  pub sum_among : w 0 ≡ 0 → (l m : List ℕ) → Apart l → ((x : ℕ) → 0 < w x → 0 < place l x → 0 < place m x) → sum_over w l ≤ sum_over w m
  sum_among z [] m a h = omega arith
  sum_among z (y ∷ ys) m a h =
      by_lt 0 (w y)
      (λ b. let n : y ≢ 0 = λ e. (let f = rw e at b in omega arith) in
      let g = place_absent ys y (a.0 n) in
      let ih = sum_among z ys (without y m) a.1 (λ x i j. among_without m y x (λ e. (let k = rw e at j in omega arith)) (h x i (among_tail y x ys j))) in
      omega (arith, sum_without m y (h y b (among_head y y ys refl))))
      (λ b. omega (arith, sum_among z ys m a.1 (λ x i j. h x i (among_tail y x ys j))))

  -- the largest is no less than any, and no more than what all are within
  pub largest_of : (l : List ℕ) (x : ℕ) → 0 < place l x → w x ≤ largest_over w l
  largest_of [] x h = absurd (omega arith)
  largest_of (y ∷ ys) x h =
      by_eq y x
      (λ e. rw e (omega arith))
      (λ e. omega (arith, largest_of ys x (among_rest y x ys e h)))

  pub largest_within : (l : List ℕ) (n : ℕ) → ((x : ℕ) → 0 < place l x → w x ≤ n) → largest_over w l ≤ n
  largest_within [] n h = omega arith
  largest_within (y ∷ ys) n h = omega (arith, h y (among_head y y ys refl), largest_within ys n (λ x j. h x (among_tail y x ys j)))

module _ (v w : ℕ → ℕ) where
  -- two numbers of each block that are one and the same
  pub sum_same : (l : List ℕ) → ((x : ℕ) → 0 < place l x → v x ≡ w x) → sum_over v l ≡ sum_over w l
  sum_same [] h = refl
  sum_same (y ∷ ys) h = omega (arith, h y (among_head y y ys refl), sum_same ys (λ x j. h x (among_tail y x ys j)))

  pub largest_same : (l : List ℕ) → ((x : ℕ) → 0 < place l x → v x ≡ w x) → largest_over v l ≡ largest_over w l
  largest_same [] h = refl
  largest_same (y ∷ ys) h = omega (arith, h y (among_head y y ys refl), largest_same ys (λ x j. h x (among_tail y x ys j)))

  pub sum_less : (l : List ℕ) → ((x : ℕ) → 0 < place l x → v x ≤ w x) → sum_over v l ≤ sum_over w l
  sum_less [] h = omega arith
  sum_less (y ∷ ys) h = omega (arith, h y (among_head y y ys refl), sum_less ys (λ x j. h x (among_tail y x ys j)))

-- numbers of at most 1, and no less than 1
pub sum_ones : (w : ℕ → ℕ) → ((x : ℕ) → w x ≤ 1) → (l : List ℕ) → sum_over w l ≤ length l
sum_ones w h [] = omega arith
sum_ones w h (y ∷ ys) = omega (arith, h y, sum_ones w h ys)

pub ones_sum : (w : ℕ → ℕ) (l : List ℕ) → ((x : ℕ) → 0 < place l x → 1 ≤ w x) → length l ≤ sum_over w l
ones_sum w [] h = omega arith
ones_sum w (y ∷ ys) h = omega (arith, h y (among_head y y ys refl), ones_sum w ys (λ x j. h x (among_tail y x ys j)))

-- ---- the blocks of reads, each once: all blocks of a card are among them

-- no block twice
pub apart_blocks : (rs : List Read) → Apart (blocks_of rs)
apart_blocks [] = tt
apart_blocks (r ∷ rs) =
    by_eq (place (blocks_of rs) (block_read r)) 0
    (λ e. simp tests ((λ n. depth_absent (blocks_of rs) (block_read r) e), apart_blocks rs))
    (λ e. simp tests (apart_blocks rs))

-- no block is 0
pub some_blocks : (rs : List Read) (x : ℕ) → 0 < place (blocks_of rs) x → 0 < x
some_blocks [] x h = absurd (omega arith)
some_blocks (r ∷ rs) x h =
    by_eq (place (blocks_of rs) (block_read r)) 0
    (λ e. let g = simp tests at h in by_eq (block_read r) x
    (λ f. omega (arith, key_some r))
    (λ f. some_blocks rs x (among_rest (block_read r) x (blocks_of rs) f g)))
    (λ e. some_blocks rs x (simp tests at h))

-- the block of the first read, and those of the others
first_block : (r : Read) (rs : List Read) → 0 < place (blocks_of (r ∷ rs)) (block_read r)
first_block r rs =
    by_eq (place (blocks_of rs) (block_read r)) 0
    (λ e. simp tests (omega arith))
    (λ e. simp tests (omega arith))

later_blocks : (r : Read) (rs : List Read) (x : ℕ) → 0 < place (blocks_of rs) x → 0 < place (blocks_of (r ∷ rs)) x
later_blocks r rs x h =
    by_eq (place (blocks_of rs) (block_read r)) 0
    (λ e. simp tests (among_tail (block_read r) x (blocks_of rs) h))
    (λ e. simp tests h)

-- a block that is in no card before the reads and is not read is in no card after them
unread_absent : (rs : List Read) (c : List ℕ) (x : ℕ) → 0 < x → place c x ≡ 0 → place (blocks_of rs) x ≡ 0 → place (run c rs) x ≡ 0
unread_absent [] c x z e h = e
unread_absent (r ∷ rs) c x z e h =
    by_eq x (block_read r)
    (λ f. absurd (omega (arith, rw f at h, first_block r rs)))
    (λ f. unread_absent rs (next c r) x z (absent_after c (block_read r) (asked (length c) r) x (asked_some (length c) r) z f e)
    (by_eq (place (blocks_of rs) x) 0 (λ g. g) (λ g. absurd (omega (arith, later_blocks r rs x (omega arith))))))

-- each block of a card is among the blocks of the reads
pub card_blocks : (m : ℕ) (rs : List Read) (x : ℕ) → 0 < x → 0 < place (card_after m rs) x → 0 < place (blocks_of rs) x
card_blocks m rs x z h =
    by_eq (place (blocks_of rs) x) 0
    (λ e. absurd (omega (arith, unread_absent rs (empty m) x z (place_empty m x z) e)))
    (λ e. omega arith)
