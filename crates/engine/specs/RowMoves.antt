-- What the functions on rows promise each other: how a list comes from one row to another.
use Rattle.std.specs.Prelude.{◌≡◌, ◌⊎◌, List, [], ◌∷◌, ℕ, ◌+◌, ◌≤◌, ◌<◌, get_or, length}
use Rattle.card.specs.Stretches.{stretches}
use Rattle.card.specs.Falling.{Falling}
use Rattle.engine.specs.Moves.{other_after, Raised}
use Rattle.engine.specs.Rows.{pairs, row_length, stretches_length, row_of, Row}
use Rattle.engine.specs.Lists.{Holds, Begins}
use Rattle.engine.specs.declared.rows.Changes.{Changes}
use Rattle.engine.specs.declared.rows.Span.{Span}

-- an area is as it was outside the part from a on, w long
pub record Kept (area last : List ℕ) (a w : ℕ) : Type 0 where
  pub size : length last ≡ length area
  pub below : (x : ℕ) → x < a → get_or last x 0 ≡ get_or area x 0
  pub above : (x : ℕ) → a + w ≤ x → get_or last x 0 ≡ get_or area x 0

-- a row lies in an area
abbrev pub InArea : Span → List ℕ → Type 0
InArea row area = row.start + row.room ≤ length area

-- what a list is copied with: an area with all rows, and room for the longest list and two zeros, which holds zeros
pub record LoadReady (area list : List ℕ) (n j : ℕ) : Type 0 where
  pub within : j ≤ n
  pub narrow : n < 65535
  pub room : stretches_length n ≤ length area
  pub wide : row_length n + 2 ≤ length list
  pub blank : (x : ℕ) → get_or list x 0 ≡ 0

-- a list gets what the row of place j holds, the list of a block that is at no size up to n where j is 0
abbrev pub Loaded : (area list : List ℕ) (n j : ℕ) → Type 0
Loaded area list n j =
    (R : ℕ → ℕ) → Falling R → (j ≡ 0 → R n ≡ 0) → (0 < j → Row area (row_of n j) (pairs R n)) → Holds list R n

-- a row, whatever list it held, gets the list of one stretch
abbrev pub OneWritten : (entry exit : List ℕ) → Span → (first place : ℕ) → Type 0
OneWritten entry exit row first place =
    (R T : ℕ → ℕ) (n : ℕ) → pairs R n ≡ first ∷ place ∷ [] → Row entry row (pairs T n) → Row exit row (pairs R n)

-- a row that holds a list from its entry q on holds zeros from there on
abbrev pub Closed : (entry exit : List ℕ) → Span → (q : ℕ) → Type 0
Closed entry exit row q =
    (T : ℕ → ℕ) (n : ℕ) → length (pairs T n) ≤ row.room → ((x : ℕ) → q ≤ x → x < row.room → get_or entry (row.start + x) 0 ≡ get_or (pairs T n) x 0)
    → (x : ℕ) → q ≤ x → x < row.room → get_or exit (row.start + x) 0 ≡ 0

-- a row, whatever list it held, gets the list of another block after the read, where that fits, and how many entries it has
abbrev pub RowMerged : (list other entry exit : List ℕ) → Span → (p n x : ℕ) → Type 0
RowMerged list other entry exit row p n x =
    (J L T : ℕ → ℕ) → Falling J → Falling L → Begins list J n → Begins other L n → Row entry row (pairs T n) → length (pairs (other_after J p L) n) ≤ row.room
    → (x ≡ length (pairs (other_after J p L) n)) × Row exit row (pairs (other_after J p L) n)

-- the first x entries from an index on are the list of a row with each place one less
abbrev pub RowRaised : (entry exit : List ℕ) (from : Span) (to x : ℕ) → Type 0
RowRaised entry exit from to x =
    (R S : ℕ → ℕ) (n : ℕ) → Raised R S n → Row entry from (pairs S n)
    → (x ≡ length (pairs R n)) × ((q : ℕ) → q < x → get_or exit (to + q) 0 ≡ get_or (pairs R n) q 0)

-- two rows of an area, each with room for a stretch
pub record BothRows (from to : Span) (area : List ℕ) : Type 0 where
  pub source : InArea from area
  pub target : InArea to area
  pub source_room : 2 ≤ from.room
  pub target_room : 2 ≤ to.room

-- the list of S comes from one row to another as the read leaves it, where it fits that row, with as many stretches; T is what was there
abbrev pub Carried : (entry exit : List ℕ) (from to : Span) (n p : ℕ) (J S T : ℕ → ℕ) → Type 0
Carried entry exit from to n p J S T =
    Row entry from (pairs S n) → Row entry to (pairs T n) → length (pairs (other_after J p S) n) ≤ to.room
    → Row exit to (pairs (other_after J p S) n) × (stretches (other_after J p S) n ≡ stretches S n)

-- so it does whatever block the row belongs to, one of the largest card or one that is nowhere
abbrev pub CarriedNone : (entry exit : List ℕ) (from to : Span) → Type 0
CarriedNone entry exit from to =
    (n p : ℕ) (J S T : ℕ → ℕ) → 0 < p → (0 < S n) ⊎ ((m : ℕ) → S m ≡ 0) → Falling S → Carried entry exit from to n p J S T

-- so does the list of place s, where the block read is put in no lower than there and was lower or in no card
abbrev pub CarriedDown : (entry exit : List ℕ) (from to : Span) (s : ℕ) → Type 0
CarriedDown entry exit from to s =
    (n p j : ℕ) (J S T : ℕ → ℕ) → 0 < p → p ≤ s → s < n → Falling J → Falling S → S n ≡ s → j ≡ J n → (j ≡ 0) ⊎ (s < j)
    → Carried entry exit from to n p J S T

-- so does the list of place s, where the block read is in the largest card and its list begins with start and place
abbrev pub CarriedUp : (entry exit : List ℕ) (from to : Span) (s p start place : ℕ) → Type 0
CarriedUp entry exit from to s p start place =
    (n j : ℕ) (J S T : ℕ → ℕ) → 0 < p → Falling J → Falling S → S n ≡ s → j ≡ J n → 0 < j
    → start ≡ get_or (pairs J n) 0 0 → place ≡ get_or (pairs J n) 1 0 → Carried entry exit from to n p J S T

-- what a list is merged with: both rows in the area, room for a copy of the list, and numbers in 16 bits
pub record MergeReady (area scratch : List ℕ) (from to : Span) (p n : ℕ) : Type 0 where
  pub read_at : 0 < p
  pub narrow : n < 65535
  pub source : InArea from area
  pub target : InArea to area
  pub spare : from.room < length scratch

-- it comes with another number of stretches, which are counted as gained, and those it had as lost
abbrev pub Merged : (list entry exit : List ℕ) (from to : Span) (n p : ℕ) → Changes → Type 0
Merged list entry exit from to n p more =
    (J S T : ℕ → ℕ) → Falling J → Falling S → Begins list J n → Row entry from (pairs S n) → Row entry to (pairs T n) → length (pairs (other_after J p S) n) ≤ to.room
    → Row exit to (pairs (other_after J p S) n) × (more.gained ≡ stretches (other_after J p S) n) × (more.lost ≡ stretches S n) × (more.longest ≡ more.gained)
