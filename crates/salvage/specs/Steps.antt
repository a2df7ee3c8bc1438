-- What the functions behind a salvage promise each other.
use Rattle.std.specs.Prelude.{ℕ, zero, suc, ◌+◌, ◌-◌, Option, Some, None, List, [], ◌∷◌, map, set}
use Rattle.std.specs.Option.{option_map}
use Rattle.terms.specs.Refusals.{number_of}
use Rattle.trace.specs.Reading.{Reading, Given, Refused}
use Rattle.salvage.specs.Pieces as pieces
use Rattle.salvage.specs.Pieces.{Fate, pieces_from}
use Rattle.salvage.specs.Good.{kept_bytes, good_from}
use Rattle.salvage.specs.Listing.{entry_of, entries_of}
use Rattle.salvage.specs.Answers as answers
use Rattle.salvage.specs.Answers.{Salvaging}
use Rattle.salvage.specs.declared.Entry.{Entry}
use Rattle.salvage.specs.declared.listing.Next.{Next}
use Rattle.salvage.specs.declared.pieces.Piece.{Piece}
use Rattle.salvage.specs.declared.pieces.Pieces.{Pieces}

-- a piece without the read that it is kept for: where it begins, the place after it, and the number that it is listed under, if it is
pub record Told : Type 0 where
  pub start : ℕ
  pub end : ℕ
  pub number : Option ℕ

-- the number that a piece of this fate is listed under
abbrev pub number_listed : Fate → Option ℕ
number_listed (pieces.Kept r) = None
number_listed (pieces.Listed number) = Some number

-- what is told of a piece
abbrev pub told : pieces.Piece → Told
told piece = record { start = piece.start; end = piece.end; number = number_listed piece.fate }

-- what the code tells of a piece
abbrev pub piece_told : Piece → Told
piece_told piece = record { start = piece.start; end = piece.end; number = option_map number_of piece.left_out }

-- what is told of the pieces from a place of the bytes on
unfoldable pub told_from : List ℕ → ℕ → List Told
told_from s at = map told (pieces_from s at)

-- what is told of the pieces that an iterator has left
abbrev pub pieces_left : Pieces → List Told
pieces_left left = told_from left.trace.now left.at

-- the bytes that are kept from a place of the bytes on
unfoldable pub kept_from : List ℕ → ℕ → List ℕ
kept_from s at = kept_bytes s (pieces_from s at)

-- the header, which ends at a place, and the bytes that are kept after it
unfoldable pub good_after : List ℕ → ℕ → List ℕ
good_after s at = good_from s (Given (pieces_from s at) at)

-- the entries from a place on
unfoldable pub entries_from : List ℕ → ℕ → List Entry
entries_from s at = entries_of (pieces_from s at)

-- an entry, and the place after its piece
abbrev pub next_at : Entry → ℕ → Next
next_at entry at = record { entry = entry; at = at }

-- the entry of a piece that is listed, or what comes after one that is kept
abbrev pub or_next : (start end : ℕ) → Fate → Next → Next
or_next start end (pieces.Kept r) next = next
or_next start end (pieces.Listed number) next = next_at (entry_of start (end - start) number) end

-- the first entry of the pieces from a place on; zeros where there is none
abbrev pub next_in : ℕ → List pieces.Piece → Next
next_in at [] = next_at (entry_of 0 0 0) at
next_in at (piece ∷ pieces) = or_next piece.start piece.end piece.fate (next_in piece.end pieces)

-- the first entry from a place of the bytes on
unfoldable pub next_from : List ℕ → ℕ → Next
next_from s at = next_in at (pieces_from s at)

-- n entries from a place of the bytes on, put into a list from an index on
abbrev pub written : (n : ℕ) → List ℕ → (at index : ℕ) → List Entry → List Entry
written zero s at index list = list
written (suc n) s at index list = written n s (next_from s at).at (index + 1) (set list index (next_from s at).entry)

-- how many entries an answer asks for
abbrev pub entries_told : Salvaging → ℕ
entries_told (answers.Done bytes entries) = entries
entries_told (answers.Refused number place) = 0
entries_told (answers.Unplaced number) = 0

-- where the first piece begins
abbrev pub start_of : Reading (List pieces.Piece) → ℕ
start_of (Given pieces at) = at
start_of (Refused number place) = 0
