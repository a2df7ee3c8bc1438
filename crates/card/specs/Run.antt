-- The run of one size: from the empty card, read by read.
use Rattle.std.specs.Prelude.{ℕ, ◌+◌, max, cond, List, [], ◌∷◌, eqb, length, replicate}
use Rattle.terms.specs.Reads.{Read}
use Rattle.card.specs.Rule.{key_of, outcome_on, after_read}

-- the key of the block that is read
abbrev pub block_read : Read → ℕ
block_read r = key_of r.volume r.block

-- the place that a read asks for on a card of size m: its priority; a read without a hint has priority 0, and asks for the top as in plain LRU
unfoldable pub asked : (m : ℕ) → Read → ℕ
asked m r = max 1 r.priority

-- the empty card of size m
abbrev pub empty : ℕ → List ℕ
empty m = replicate m 0

-- the card after one read more
abbrev pub next : List ℕ → Read → List ℕ
next c r = after_read c (block_read r) (asked (length c) r)

-- the card after reads
abbrev pub run : List ℕ → List Read → List ℕ
run c [] = c
run c (r ∷ rs) = run (next c r) rs

-- the card of size m after reads
abbrev pub card_after : ℕ → List Read → List ℕ
card_after m rs = run (empty m) rs

-- the outcomes of reads in turn
abbrev pub outcomes : List ℕ → List Read → List ℕ
outcomes c [] = []
outcomes c (r ∷ rs) = outcome_on c (block_read r) (asked (length c) r) ∷ outcomes (next c r) rs

-- how often a number stands in a list
abbrev pub occurrences : ℕ → List ℕ → ℕ
occurrences o [] = 0
occurrences o (x ∷ xs) = cond (eqb x o) 1 0 + occurrences o xs

-- how many reads have an outcome at size m
abbrev pub count : (m o : ℕ) → List Read → ℕ
count m o rs = occurrences o (outcomes (empty m) rs)

-- misses are insert plus miss bypass
abbrev pub misses : ℕ → List Read → ℕ
misses m rs = count m 4 rs + count m 5 rs
