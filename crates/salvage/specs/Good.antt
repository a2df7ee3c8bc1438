-- The good trace: the header and the pieces that are kept, the same bytes in the same order.
use Rattle.std.specs.Prelude.{ℕ, ◌-◌, List, [], ◌∷◌, ◌++◌, take, drop}
use Rattle.terms.specs.Reads.{Read}
use Rattle.trace.specs.Reading.{Reading, Given, Refused}
use Rattle.salvage.specs.Pieces.{Fate, Kept, Listed, Piece, pieces_of}

-- the bytes of a piece
abbrev pub bytes_of : List ℕ → Piece → List ℕ
bytes_of s piece = take (piece.end - piece.start) (drop piece.start s)

-- these bytes, if the piece is kept
abbrev pub kept_only : Fate → List ℕ → List ℕ
kept_only (Kept r) bytes = bytes
kept_only (Listed number) bytes = []

-- the bytes of the pieces that are kept, one after the other
abbrev pub kept_bytes : List ℕ → List Piece → List ℕ
kept_bytes s [] = []
kept_bytes s (piece ∷ pieces) = kept_only piece.fate (bytes_of s piece) ++ kept_bytes s pieces

-- the read of a piece that is kept, before others
abbrev pub with_read : Fate → List Read → List Read
with_read (Kept r) rs = r ∷ rs
with_read (Listed number) rs = rs

-- the reads of the pieces that are kept
abbrev pub kept_reads : List Piece → List Read
kept_reads [] = []
kept_reads (piece ∷ pieces) = with_read piece.fate (kept_reads pieces)

-- the header, which ends at a place, and the pieces that are kept
abbrev pub good_from : List ℕ → Reading (List Piece) → List ℕ
good_from s (Given pieces at) = take at s ++ kept_bytes s pieces
good_from s (Refused number place) = []

-- the good trace of the bytes; there is none where their header is refused
unfoldable pub good_of : List ℕ → List ℕ
good_of s = good_from s (pieces_of s)
