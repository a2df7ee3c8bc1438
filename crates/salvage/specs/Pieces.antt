-- A trace after its header, cut into pieces: each is a record that is kept, or bytes that are listed.
use Rattle.std.specs.Prelude.{ℕ, zero, suc, cond, List, [], ◌∷◌, length}
use Rattle.terms.specs.Ranges.{size}
use Rattle.terms.specs.Reads.{Read}
use Rattle.trace.specs.Reading.{Reading, Given, Refused, and_then, Placed, header_at, record_at, formed_at}
use Rattle.trace.specs.Trace.{at_end}

-- a piece is kept for its read, or listed under the number of a refusal
pub data Fate : Type 0 where
  Kept : Read → Fate
  Listed : ℕ → Fate

-- where a piece begins, the place after it, and its fate
pub record Piece : Type 0 where
  pub start : ℕ
  pub end : ℕ
  pub fate : Fate

-- the three together
abbrev pub piece_of : ℕ → ℕ → Fate → Piece
piece_of at end fate = record { start = at; end = end; fate = fate }

-- a record whose numbers are well formed ends after them; any other goes on to the end of all bytes
abbrev pub form_end : (all : ℕ) → Reading Placed → ℕ
form_end all (Given r end) = end
form_end all (Refused number place) = all

-- a record that is read is kept; any other is listed under its first fault
abbrev pub sorted : (at : ℕ) → Reading Read → (last : ℕ) → Piece
sorted at (Given r end) last = piece_of at end (Kept r)
sorted at (Refused number place) last = piece_of at last (Listed number)

-- the piece that begins at a place
unfoldable pub piece_at : List ℕ → ℕ → Piece
piece_at s at = sorted at (record_at s at) (form_end (length s) (formed_at s at))

-- the pieces from a place on, in at most so many steps
abbrev pub pieces_in : (steps : ℕ) → List ℕ → ℕ → List Piece
pieces_in zero s at = []
pieces_in (suc steps) s at = cond (at_end s at) [] (piece_at s at ∷ pieces_in steps s (piece_at s at).end)

-- the pieces from a place to the end. A piece has a byte, so as many steps as there are bytes reach it
unfoldable pub pieces_from : List ℕ → ℕ → List Piece
pieces_from s at = pieces_in (length s) s at

-- the pieces of a trace and where the first begins, after the header; or the refusal of the header
unfoldable pub pieces_of : List ℕ → Reading (List Piece)
pieces_of s = and_then (header_at size.largest s 0) (λ h at. Given (pieces_from s at) at)
