-- What reading a header or a record finds: each number is read and tested before the next one is read.
use Rattle.std.specs.Prelude.{ℕ, ◌+◌, cond, List}
use Rattle.terms.specs.Refusals.{number_of}
use Rattle.terms.specs.declared.range.Range.{Range}
use Rattle.terms.specs.Ranges.{in_range, edition, size_up_to, volume_up_to, volume, block, priority_up_to, priority}
use Rattle.terms.specs.Reads.{Read, read_of}
use Rattle.trace.specs.Number.{Numeral, Value, Fault, number_at}

-- what was read and the position after it, or the refusal's number and its place
pub data Found (P L A : Type 0) : Type 0 where
  Given : A → P → Found P L A
  Refused : ℕ → L → Found P L A

-- in one string of bytes positions and places count from its start
abbrev pub Reading : Type 0 → Type 0
Reading A = Found ℕ ℕ A

module _ {P L A B : Type 0} where
  -- what was read and the position after it go on, or the refusal stands
  abbrev pub and_then : Found P L A → (A → P → Found P L B) → Found P L B
  and_then (Given x at) next = next x at
  and_then (Refused number place) next = Refused number place

module _ {A : Type 0} where
  -- a number that was read at a place: form comes before range; then its value and the place after it go on
  abbrev pub tested : Range → ℕ → Numeral → (ℕ → ℕ → Reading A) → Reading A
  tested range at (Value v n) next = cond (in_range range v) (next v (at + n)) (Refused (number_of range.refusal) at)
  tested range at (Fault number) next = Refused number at

  -- one number from a place on
  abbrev pub field : Range → List ℕ → ℕ → (ℕ → ℕ → Reading A) → Reading A
  field range s at next = tested range at (number_at s at) next

-- Header: edition, largest size
pub record Header : Type 0 where
  pub edition : ℕ
  pub size : ℕ

-- the header of an edition and a size
abbrev pub header_of : ℕ → ℕ → Header
header_of e n = record { edition = e; size = n }

-- the header at a place of the bytes, whose size is to be no larger than the largest
unfoldable pub header_at : (largest : ℕ) → List ℕ → ℕ → Reading Header
header_at largest s at = field edition s at (λ e at₁. field (size_up_to largest) s at₁ (λ n at₂. Given (header_of e n) at₂))

-- a read, and the place where its priority stands
pub record Placed : Type 0 where
  pub read : Read
  pub priority_at : ℕ

-- the two together
abbrev pub placed_of : Read → ℕ → Placed
placed_of r at = record { read = r; priority_at = at }

-- the record at a place of the bytes: volume, block, priority, in these ranges; and where the priority stands
unfoldable pub placed_in : (volumes priorities : Range) → List ℕ → ℕ → Reading Placed
placed_in volumes priorities s at =
    field volumes s at (λ v at₁. field block s at₁ (λ b at₂. field priorities s at₂ (λ p at₃. Given (placed_of (read_of v b p) at₂) at₃)))

-- the record in the ranges of the format
unfoldable pub placed_at : List ℕ → ℕ → Reading Placed
placed_at s at = placed_in volume priority s at

-- the same reading with the ranges wide open, as wide as the block's, which every number is in: only form and end are tested
unfoldable pub formed_at : List ℕ → ℕ → Reading Placed
formed_at s at = placed_in (volume_up_to block.largest) (priority_up_to block.largest) s at

-- the read of the record in the ranges of the format, without the place of its priority
unfoldable pub record_at : List ℕ → ℕ → Reading Read
record_at s at = and_then (placed_at s at) (λ r end. Given r.read end)

-- where the rest after a record starts: after the record, or at the start of the part where that is refused
abbrev pub rest_start : Reading Read → ℕ
rest_start (Given r at) = at
rest_start (Refused number place) = 0

-- the pointer so many bytes on
abbrev pub onwards : ℕ → ℕ × ℕ → ℕ × ℕ
onwards n pointer = (pointer.0, n + pointer.1)
