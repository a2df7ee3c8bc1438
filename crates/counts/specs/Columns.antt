-- The counts of each size, one for each outcome, in one area.
use Rattle.std.specs.Prelude.{ℕ, zero, suc, ◌+◌, ◌*◌, List, [], ◌∷◌, ◌++◌}
use Rattle.terms.specs.Reads.{Read}
use Rattle.card.specs.Run.{count}

-- how many counts a size has
abbrev pub columns : ℕ
columns = 6

-- the length that is asked for
abbrev pub counts_length : ℕ → ℕ
counts_length n = columns * n

-- where the count of an outcome stands, for the size after m sizes
abbrev pub cell_of : (m o : ℕ) → ℕ
cell_of m o = columns * m + o

-- the first k values of a function
abbrev pub row : ℕ → (ℕ → ℕ) → List ℕ
row zero c = []
row (suc k) c = c 0 ∷ row k (λ o. c (suc o))

-- the counts of sizes 1 to n in turn, each size's in the order of the columns
unfoldable pub table : ℕ → (ℕ → ℕ → ℕ) → List ℕ
table zero c = []
table (suc n) c = table n c ++ row columns (c (suc n))

-- those of reads: in each column the reads with that outcome
abbrev pub counts_of : ℕ → List Read → List ℕ
counts_of n rs = table n (λ m o. count m o rs)
