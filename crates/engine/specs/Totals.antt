-- Numbers of the places of a card, together.
use Rattle.std.specs.Prelude.{ℕ, zero, suc, ◌+◌, max}

-- a number of each of the places 1 to n, added up
abbrev pub sum_to : ℕ → (ℕ → ℕ) → ℕ
sum_to zero f = 0
sum_to (suc n) f = sum_to n f + f (suc n)

-- the largest of them
abbrev pub most_to : ℕ → (ℕ → ℕ) → ℕ
most_to zero f = 0
most_to (suc n) f = max (most_to n f) (f (suc n))
