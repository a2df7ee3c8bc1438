-- What the functions on the row of one place promise each other: how a read renews it.
use Rattle.std.specs.Prelude.{◌≡◌, cond, ◌⊎◌, List, ℕ, ◌+◌, ◌≤◌, ◌<◌, max, eqb, length}
use Rattle.card.specs.Stretches.{stretches}
use Rattle.card.specs.Falling.{Falling}
use Rattle.engine.specs.Moves.{Family, source_of, new_of}
use Rattle.engine.specs.Rows.{pairs, row_length, row_start, row_room, stretches_length, row_of, Row}
use Rattle.engine.specs.Lists.{Begins}
use Rattle.engine.specs.RowMoves.{Kept}
use Rattle.engine.specs.declared.rows.Changes.{Changes}
use Rattle.engine.specs.declared.renewals.RowRead.{RowRead}

-- changes and more of them together
abbrev pub Together : (changes more both : Changes) → Type 0
Together changes more both =
    (both.gained ≡ changes.gained + more.gained) × (both.lost ≡ changes.lost + more.lost) × (both.longest ≡ max changes.longest more.longest)

-- changes are small enough to add to, and grow by a bounded number
abbrev pub ChangesBelow : Changes → ℕ → Type 0
ChangesBelow changes m = (changes.gained < m) × (changes.lost < m)

abbrev pub Grown : (changes more : Changes) → ℕ → Type 0
Grown changes more m = (more.gained ≤ changes.gained + m) × (more.lost ≤ changes.lost + m)

-- the rows are in the area, and their numbers in 16 bits
pub record Fits (read : RowRead) (area : ℕ) : Type 0 where
  pub read_at : 0 < read.p
  pub some : 0 < read.n
  pub narrow : read.n < 65535
  pub wide : read.width ≡ row_length read.n
  pub room : stretches_length read.n ≤ area

-- what every row is renewed with: an area with all rows, the list of the block read, room for another list, and changes below m
pub record Ready (read : RowRead) (area list scratch : List ℕ) (changes : Changes) (m : ℕ) : Type 0 where
  pub fits : Fits read (length area)
  pub listed : 2 ≤ length list
  pub spare : read.width < length scratch
  pub small : ChangesBelow changes m

-- lo is a place no lower than p and the block read
pub record Above (read : RowRead) (lo : ℕ) : Type 0 where
  pub some : 0 < lo
  pub reach : lo ≤ read.p
  pub side : (read.j ≡ 0) ⊎ (lo ≤ read.j)
  pub within : lo ≤ read.n

-- place k is below p and the block read
pub record Below (read : RowRead) (k : ℕ) : Type 0 where
  pub present : 0 < read.j
  pub past : read.j < k
  pub lower : read.p < k
  pub within : k ≤ read.n

-- the block read is in the largest card, and is put in no higher than this place
pub record Sinks (read : RowRead) (bottom : ℕ) : Type 0 where
  pub present : 0 < read.j
  pub reach : bottom ≤ read.p
  pub within : bottom ≤ read.n

-- the row of a place
abbrev pub RowAt : (area : List ℕ) → RowRead → ℕ → (ℕ → ℕ) → Type 0
RowAt area read k R = Row area (row_of read.n k) (pairs R read.n)

-- of numbers of the old places, that of what comes to place k, which is none for the block read
unfoldable pub moved_of : (ℕ → ℕ) → (p j k : ℕ) → ℕ
moved_of count p j k = cond (eqb k p) 0 (count (source_of p j k))

-- how many stretches come to place k, and how many stand there after the read
abbrev pub comes : RowRead → (L : ℕ → ℕ → ℕ) → ℕ → ℕ
comes read L = moved_of (λ i. stretches (L i) read.n) read.p read.j

abbrev pub stands : RowRead → (J : ℕ → ℕ) (L : ℕ → ℕ → ℕ) → ℕ → ℕ
stands read J L k = stretches (new_of J read.p read.j L k) read.n

-- the places J of the block read, which is at place j of the largest card, and those of all blocks of the card
pub record Finds (list : List ℕ) (read : RowRead) (J : ℕ → ℕ) (L : ℕ → ℕ → ℕ) : Type 0 where
  pub falling : Falling J
  pub family : Family L read.n
  pub there : read.j ≡ J read.n
  pub begins : Begins list J read.n

-- the row of place k, and no other, becomes what the read leaves there, and the changes count what it gained and lost
pub record Renewed (read : RowRead) (J : ℕ → ℕ) (L : ℕ → ℕ → ℕ) (k : ℕ) (changes next : Changes) (area last : List ℕ) : Type 0 where
  pub kept : Kept area last (row_start read.n k) (row_room read.n k)
  pub row : RowAt last read k (new_of J read.p read.j L k)
  pub more : Changes
  pub balance : more.gained + comes read L k ≡ more.lost + stands read J L k
  pub most : (B : ℕ) → comes read L k ≤ B → max B more.longest ≡ max B (stands read J L k)
  pub together : Together changes more next

-- so it does whatever the read finds, if the list that comes to it is still at place s
abbrev pub Renews : (list : List ℕ) → RowRead → (s k : ℕ) (changes next : Changes) (area last : List ℕ) → Type 0
Renews list read s k changes next area last =
    (J : ℕ → ℕ) (L : ℕ → ℕ → ℕ) → Finds list read J L → RowAt area read s (L s) → RowAt area read k (L k) → Renewed read J L k changes next area last
