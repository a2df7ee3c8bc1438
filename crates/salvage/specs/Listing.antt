-- The list: an entry for each piece that is not kept.
use Rattle.std.specs.Prelude.{ℕ, ◌-◌, List, [], ◌∷◌}
use Rattle.trace.specs.Reading.{Reading, Given, Refused}
use Rattle.salvage.specs.Pieces.{Fate, Kept, Listed, Piece, pieces_of}
use Rattle.salvage.specs.declared.Entry.{Entry}

-- the entry of an offset, a length and the number of a refusal
abbrev pub entry_of : ℕ → ℕ → ℕ → Entry
entry_of offset length number = record { offset = offset; length = length; number = number }

-- the entry of a piece that begins and ends at these places, if it is listed, before others
abbrev pub with_entry : (start end : ℕ) → Fate → List Entry → List Entry
with_entry start end (Kept r) entries = entries
with_entry start end (Listed number) entries = entry_of start (end - start) number ∷ entries

-- the entries of the pieces that are listed
abbrev pub entries_of : List Piece → List Entry
entries_of [] = []
entries_of (piece ∷ pieces) = with_entry piece.start piece.end piece.fate (entries_of pieces)

-- the entries of what was sorted
abbrev pub listed_from : Reading (List Piece) → List Entry
listed_from (Given pieces at) = entries_of pieces
listed_from (Refused number place) = []

-- the entries of the bytes; there is none where their header is refused
unfoldable pub list_of : List ℕ → List Entry
list_of s = listed_from (pieces_of s)
