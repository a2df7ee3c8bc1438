-- Stretches: over sizes 1 to N, the longest runs of neighbouring sizes at which a block is present at one and the same place.
use Rattle.std.specs.Prelude.{ℕ, zero, suc, ◌+◌, ◌/◌, max, cond, List, [], ◌∷◌, ◌++◌, eqb}
use Rattle.terms.specs.Reads.{Read}
use Rattle.card.specs.Rule.{place}
use Rattle.card.specs.Run.{block_read, card_after}

-- the place of a block at each size after reads, from the separate runs
abbrev pub places_of : List Read → ℕ → ℕ → ℕ
places_of rs x m = place (card_after m rs) x

-- 1 where a stretch starts: the block is present at a size, and was not at that place in the size before
abbrev pub starts : (before now : ℕ) → ℕ
starts before now = cond (eqb now 0) 0 (cond (eqb now before) 0 1)

-- the stretches over sizes 1 to n of a block with these places; a card of size 0 has none
abbrev pub stretches : (ℕ → ℕ) → ℕ → ℕ
stretches places zero = 0
stretches places (suc n) = stretches places n + starts (places n) (places (suc n))

-- the blocks of reads, each once
abbrev pub blocks_of : List Read → List ℕ
blocks_of [] = []
blocks_of (r ∷ rs) = cond (eqb (place (blocks_of rs) (block_read r)) 0) (block_read r ∷ blocks_of rs) (blocks_of rs)

-- a number of each block, added up
abbrev pub sum_over : (ℕ → ℕ) → List ℕ → ℕ
sum_over f [] = 0
sum_over f (x ∷ xs) = f x + sum_over f xs

-- the largest of them
abbrev pub largest_over : (ℕ → ℕ) → List ℕ → ℕ
largest_over f [] = 0
largest_over f (x ∷ xs) = max (f x) (largest_over f xs)

-- the stretches of all blocks over sizes 1 to N
unfoldable pub total : ℕ → List Read → ℕ
total N rs = sum_over (λ x. stretches (places_of rs x) N) (blocks_of rs)

-- the most stretches that one block has
unfoldable pub most_of_one : ℕ → List Read → ℕ
most_of_one N rs = largest_over (λ x. stretches (places_of rs x) N) (blocks_of rs)

-- the largest value after any read of the later ones, with the earlier ones before them; 0 where there is none
abbrev pub largest_after : (List Read → ℕ) → (earlier later : List Read) → ℕ
largest_after f earlier [] = 0
largest_after f earlier (r ∷ rs) = max (f (earlier ++ (r ∷ []))) (largest_after f (earlier ++ (r ∷ [])) rs)

-- the two peaks that a run reports
abbrev pub peak_total : ℕ → List Read → ℕ
peak_total N rs = largest_after (total N) [] rs

abbrev pub peak_of_one : ℕ → List Read → ℕ
peak_of_one N rs = largest_after (most_of_one N) [] rs

-- half of N, rounded up
abbrev pub half : ℕ → ℕ
half N = (N + 1) / 2
