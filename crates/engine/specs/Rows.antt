-- What the stretch area holds: a row for each place of the largest card, with the stretches of the block there.
use Rattle.std.specs.Prelude.{ℕ, zero, suc, ◌+◌, ◌-◌, ◌*◌, ◌<◌, ◌≤◌, ◌≡◌, cond, List, [], ◌∷◌, ◌++◌, eqb, get_or, length}
use Rattle.terms.specs.Reads.{Read}
use Rattle.card.specs.Run.{card_after}
use Rattle.card.specs.Stretches.{places_of, starts, half}
use Rattle.engine.specs.declared.rows.Span.{Span}

-- the stretches over sizes 1 to n of a block with these places: for each its first size and its place
unfoldable pub pairs : (ℕ → ℕ) → ℕ → List ℕ
pairs places zero = []
pairs places (suc n) = pairs places n ++ cond (eqb (starts (places n) (places (suc n))) 0) [] (suc n ∷ places (suc n) ∷ [])

-- the longest row: two numbers for each stretch that a block can have
abbrev pub row_length : ℕ → ℕ
row_length n = 2 * half n

-- where the row of place k starts, in the area of a card of size n
unfoldable pub row_start : (n k : ℕ) → ℕ
row_start n k = (k - 1) * row_length n

-- how many numbers it has room for
unfoldable pub row_room : (n k : ℕ) → ℕ
row_room n k = row_length n

-- the length of all rows
unfoldable pub stretches_length : ℕ → ℕ
stretches_length n = 2 * n * half n

-- a part of the area, by where it starts and how many numbers it has room for
abbrev pub span : (start room : ℕ) → Span
span start room = record { start = start; room = room }

-- the row of place k
abbrev pub row_of : (n k : ℕ) → Span
row_of n k = span (row_start n k) (row_room n k)

-- a row of an area holds a list, all of it, and zeros after it
pub record Row (area : List ℕ) (row : Span) (list : List ℕ) : Type 0 where
  pub fits : length list ≤ row.room
  pub same : (q : ℕ) → q < row.room → get_or area (row.start + q) 0 ≡ get_or list q 0

-- the places of what stands at an index of a card, which are none where that is no block
abbrev pub places_at : List Read → ℕ → ℕ → ℕ → ℕ
places_at rs n i m = cond (eqb (get_or (card_after n rs) i 0) 0) 0 (places_of rs (get_or (card_after n rs) i 0) m)

-- what the two areas hold after reads: the separate run of size n, and for each of its blocks the stretches over all sizes
pub record Held (n : ℕ) (rs : List Read) (blocks stretches : List ℕ) : Type 0 where
  pub card : blocks ≡ card_after n rs
  pub rows : (i : ℕ) → i < n → Row stretches (row_of n (suc i)) (pairs (places_at rs n i) n)
