-- The six counts of a host that keeps one card, and what an outcome adds to them.
use Rattle.std.specs.Prelude.{ℕ, ◌+◌, Bool, true, false, ◌&&◌, cond, List, [], ◌∷◌, ltb, leb, length, get_or, set}
use Rattle.terms.specs.declared.Refusal.TheVariants.{Room}
use Rattle.terms.specs.Refusals.{number_of}

-- whether an outcome is a hit: up, same, down and hit bypass are, insert and miss bypass are misses
unfoldable pub is_hit : ℕ → Bool
is_hit o = get_or (true ∷ true ∷ true ∷ true ∷ false ∷ false ∷ []) o false

-- one count for each outcome
abbrev pub counts_lent : ℕ
counts_lent = 6

-- the slot of each outcome in the counts, in their order; a number that is no outcome has none, and gets the one past them
unfoldable pub slot_of : ℕ → ℕ
slot_of o = get_or (0 ∷ 1 ∷ 2 ∷ 3 ∷ 4 ∷ 5 ∷ []) o counts_lent

-- the largest count, of 64 bits
abbrev pub largest_count : ℕ
largest_count = 18446744073709551615

-- there is a slot, and one more fits there
abbrev pub is_counted : ℕ → List ℕ → Bool
is_counted o counts = ltb (slot_of o) counts_lent && ltb (get_or counts (slot_of o) 0) largest_count

-- how many outcomes were added, or the refusal's number
pub data Counting : Type 0 where
  Added : ℕ → Counting
  Refused : ℕ → Counting

-- fewer counts than outcomes are refused; else one is added, or none where the number is no outcome or its count is full
unfoldable pub counting_of : (outcome : ℕ) (counts : List ℕ) → Counting
counting_of o counts = cond (leb counts_lent (length counts)) (Added (cond (is_counted o counts) 1 0)) (Refused (number_of Room))

-- the counts after it: one more in the outcome's slot where it was added, and as they were where it was not
unfoldable pub counts_after : (outcome : ℕ) (counts : List ℕ) → List ℕ
counts_after o counts =
    cond (leb counts_lent (length counts) && is_counted o counts) (set counts (slot_of o) (get_or counts (slot_of o) 0 + 1)) counts
