-- Pieces that cover the bytes between two places, each byte once and in order.
use Rattle.std.specs.Prelude.{◌≡◌, ℕ, ◌+◌, ◌<◌, List, [], ◌∷◌, ◌++◌}
use Rattle.salvage.specs.Pieces.{Piece}
use Rattle.salvage.specs.Good.{bytes_of}
use Rattle.salvage.specs.declared.Entry.{Entry}

-- each piece begins where the one before it ends, and has a byte
abbrev pub Tiles : (at : ℕ) → List Piece → (end : ℕ) → Type 0
Tiles at [] end = at ≡ end
Tiles at (piece ∷ pieces) end = (piece.start ≡ at) × ((at < piece.end) × Tiles piece.end pieces end)

-- the bytes of the pieces, kept or listed, one after the other
abbrev pub all_bytes : List ℕ → List Piece → List ℕ
all_bytes s [] = []
all_bytes s (piece ∷ pieces) = bytes_of s piece ++ all_bytes s pieces

-- how many bytes entries are for
abbrev pub listed_length : List Entry → ℕ
listed_length [] = 0
listed_length (entry ∷ entries) = entry.length + listed_length entries
