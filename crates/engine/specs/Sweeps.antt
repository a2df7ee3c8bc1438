-- What the functions on all rows promise each other: a read renews them from both ends of the card towards the blocks that move.
use Rattle.std.specs.Prelude.{◌≡◌, cond, ◌⊎◌, List, ℕ, ◌+◌, ◌^◌, ◌≤◌, ◌<◌, max, eqb, ltb, length}
use Rattle.terms.specs.Ranges.{size}
use Rattle.card.specs.Stretches.{stretches}
use Rattle.card.specs.Falling.{Falling}
use Rattle.engine.specs.Moves.{Family, new_of}
use Rattle.engine.specs.Rows.{pairs, row_length, stretches_length, row_of, Row}
use Rattle.engine.specs.Totals.{sum_to, most_to}
use Rattle.engine.specs.Lists.{Holds}
use Rattle.engine.specs.Renewals.{Ready, RowAt, Finds, comes, stands, moved_of}
use Rattle.engine.specs.declared.rows.Changes.{Changes}
use Rattle.engine.specs.declared.renewals.RowRead.{RowRead}

-- the rows of an area hold the lists of all blocks
abbrev pub RowsOf : (area : List ℕ) (n : ℕ) → (ℕ → ℕ → ℕ) → Type 0
RowsOf area n L = (k : ℕ) → 1 ≤ k → k ≤ n → Row area (row_of n k) (pairs (L k) n)

-- no block had more stretches
abbrev pub Bound : (n : ℕ) (L : ℕ → ℕ → ℕ) → ℕ → Type 0
Bound n L B = (k : ℕ) → 1 ≤ k → k ≤ n → stretches (L k) n ≤ B

-- bottom is a place no higher than the block read and p, or the last one
pub record Lower (read : RowRead) (bottom : ℕ) : Type 0 where
  pub present : 0 < read.j
  pub reached : read.j ≤ bottom
  pub side : (read.p ≤ bottom) ⊎ (read.n ≤ bottom)
  pub within : bottom ≤ read.n

-- the first a rows and those past the b-th are renewed, the others are not yet, and the changes count what is done
pub record Halfway (read : RowRead) (left a b : ℕ) (changes : Changes) (area : List ℕ) (J : ℕ → ℕ) (L : ℕ → ℕ → ℕ) : Type 0 where
  pub old : (k : ℕ) → a < k → k ≤ b → RowAt area read k (L k)
  pub new : (k : ℕ) → 1 ≤ k → k ≤ read.n → (k ≤ a) ⊎ (b < k) → RowAt area read k (new_of J read.p read.j L k)
  pub sums : changes.gained + left + sum_to read.n (comes read L) + sum_to a (comes read L) + sum_to b (stands read J L)
      ≡ changes.lost + sum_to read.n (stands read J L) + sum_to a (stands read J L) + sum_to b (comes read L)
  pub covered : (B : ℕ) → Bound read.n L B → (k : ℕ) → 1 ≤ k → k ≤ read.n → (k ≤ a) ⊎ (b < k) → stands read J L k ≤ max B changes.longest
  pub reached : (B : ℕ) → Bound read.n L B → changes.longest ≤ max B (most_to read.n (stands read J L))

-- whatever the read finds, rows that are renewed up to a and past b become rows that are renewed up to c and past d
abbrev pub Leads : (list : List ℕ) → RowRead → (a b : ℕ) → Changes → List ℕ → (c d : ℕ) → Changes → List ℕ → Type 0
Leads list read a b changes area c d next last =
    (left : ℕ) (J : ℕ → ℕ) (L : ℕ → ℕ → ℕ) → Finds list read J L → Halfway read left a b changes area J L → Halfway read left c d next last J L

-- of the stretches of the old places, those that leave: the block read's, or those of what is pushed out of the last place
unfoldable pub left_of : (ℕ → ℕ) → (read n p j : ℕ) → ℕ
left_of count read n p j = cond (eqb j 0) (cond (ltb n p) 0 (count n)) read

-- so many leave, whatever the read finds
abbrev pub Leaves : (list area : List ℕ) → RowRead → (x : ℕ) → Type 0
Leaves list area read x =
    (J : ℕ → ℕ) (L : ℕ → ℕ → ℕ) → Finds list read J L → RowAt area read read.n (L read.n)
    → x ≡ left_of (λ k. stretches (L k) read.n) (stretches J read.n) read.n read.p read.j

-- all rows together: the stretches gained and lost beside those that leave, and the longest list that was made
abbrev pub AllCounted : (n p j leaving gained lost longest : ℕ) (J : ℕ → ℕ) (L : ℕ → ℕ → ℕ) → Type 0
AllCounted n p j leaving gained lost longest J L =
    (gained + leaving + sum_to n (moved_of (λ i. stretches (L i) n) p j) ≡ lost + sum_to n (λ k. stretches (new_of J p j L k) n))
    × ((B : ℕ) → Bound n L B → max B longest ≡ max B (most_to n (λ k. stretches (new_of J p j L k) n)))

-- whatever the read finds, all rows are renewed, from changes that count nothing yet but the stretches that leave
abbrev pub AllRenewed : (list : List ℕ) → RowRead → (leaving : ℕ) → Changes → (area last : List ℕ) → Type 0
AllRenewed list read leaving changes area last =
    (J : ℕ → ℕ) (L : ℕ → ℕ → ℕ) → Finds list read J L → RowsOf area read.n L
    → RowsOf last read.n (new_of J read.p read.j L) × AllCounted read.n read.p read.j leaving changes.gained changes.lost changes.longest J L

-- nothing is counted yet but a number of stretches that leave, which is small
abbrev pub Fresh : Changes → Type 0
Fresh changes = (changes.gained ≡ 0) × (changes.lost < 2 ^ 32) × (changes.longest ≡ 0)

-- what all rows are renewed with
pub record AllReady (read : RowRead) (area list scratch : List ℕ) (changes : Changes) : Type 0 where
  pub ready : Ready read area list scratch changes (2 ^ 40)
  pub fresh : Fresh changes

-- and what a read is told with: a size, a priority and a place in their ranges, and room for all rows and two lists
pub record RenewReady (area list scratch : List ℕ) (n p j : ℕ) : Type 0 where
  pub some : 1 ≤ n
  pub in_range : n ≤ size.largest
  pub read_at : 1 ≤ p
  pub within : j ≤ n
  pub put_in : j ≡ 0 → p ≤ n
  pub room : stretches_length n ≤ length area
  pub listed : row_length n + 2 ≤ length list
  pub spare : row_length n < length scratch

-- what a read finds: the places of the block read, which is at place j of the largest card, in the list, and those of all blocks of the card in the rows
pub record FoundInRows (list area : List ℕ) (n j : ℕ) (J : ℕ → ℕ) (L : ℕ → ℕ → ℕ) : Type 0 where
  pub falling : Falling J
  pub family : Family L n
  pub there : j ≡ J n
  pub same : 0 < j → (m : ℕ) → L j m ≡ J m
  pub listed : Holds list J n
  pub rows : RowsOf area n L

-- whatever the read finds, each row gets the list of what then stands at its place
abbrev pub RowsRenewed : (list area last : List ℕ) (n p j : ℕ) → Type 0
RowsRenewed list area last n p j =
    (J : ℕ → ℕ) (L : ℕ → ℕ → ℕ) → FoundInRows list area n j J L → RowsOf last n (new_of J p j L)

-- the stretches of all blocks change by those gained and lost
abbrev pub TotalChanged : (list area : List ℕ) (n p j : ℕ) → Changes → Type 0
TotalChanged list area n p j changes =
    (J : ℕ → ℕ) (L : ℕ → ℕ → ℕ) → FoundInRows list area n j J L
    → changes.gained + sum_to n (λ k. stretches (L k) n) ≡ changes.lost + sum_to n (λ k. stretches (new_of J p j L k) n)

-- beside what bounds the lists before the read, the longest list made is the longest of all
abbrev pub LongestMade : (list area : List ℕ) (n p j : ℕ) → Changes → Type 0
LongestMade list area n p j changes =
    (J : ℕ → ℕ) (L : ℕ → ℕ → ℕ) → FoundInRows list area n j J L
    → (B : ℕ) → Bound n L B → max B changes.longest ≡ max B (most_to n (λ k. stretches (new_of J p j L k) n))
