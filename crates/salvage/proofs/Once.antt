-- What is kept and what is listed cover the bytes after the header, each once and in order.
use mathlib.Core.Path.{◌≡◌, refl, subst}
use mathlib.Core.List.{List, ◌++◌}
use Prim.Native.Nat.{ℕ, ◌+◌}
use native.Mathlib.Omega.{arith}
use lib.ListN.{length, take, drop, length-append}
use lib.Seq.{length-take-le}
use Rattle.terms.specs.Ranges.{size}
use Rattle.trace.specs.Reading.{Reading, Given, Refused, and_then, Header, header_at}
use Rattle.trace.proofs.Ends.{Within, header_within}
use Rattle.trace.proofs.OneSpelling.{Gives}
use Rattle.salvage.specs.Pieces.{Piece, pieces_from, pieces_of}
use Rattle.salvage.specs.Good.{kept_bytes, good_of}
use Rattle.salvage.specs.Listing.{entries_of, list_of}
use Rattle.salvage.specs.Cover.{Tiles, all_bytes, listed_length}
use Rattle.salvage.proofs.Covers.{tiles, tiles_within, tiles_cover, add_up}

-- the pieces lie end to end from the end of the header to the end of the bytes
pieces_tile : (s : List ℕ) → Gives (λ pieces at. Tiles at pieces (length s)) (pieces_of s)
unfolding pieces_of
pieces_tile s = go (header_at size.largest s 0) (header_within size.largest s 0 (omega arith))
  where
    go : (r : Reading Header) → Within 0 (length s) r → Gives (λ pieces at. Tiles at pieces (length s)) (and_then r (λ h at. Given (pieces_from s at) at))
    go (Given h at) w = tiles s at w.1
    go (Refused number place) w = tt

-- the good trace is the header and the pieces that are kept, the list is of the others, and together they are all bytes, each once
pub kept_or_listed : (s : List ℕ) (pieces : List Piece) (at : ℕ) → pieces_of s ≡ Given pieces at
    → (good_of s ≡ take at s ++ kept_bytes s pieces)
    × (list_of s ≡ entries_of pieces)
    × Tiles at pieces (length s)
    × (all_bytes s pieces ≡ drop at s)
    × (length (good_of s) + listed_length (list_of s) ≡ length s)
unfolding good_of list_of
kept_or_listed s pieces at e =
    let tiled = subst (Gives (λ pieces at. Tiles at pieces (length s))) e (pieces_tile s) in
    rw e (refl, refl, tiled, tiles_cover s at pieces tiled, omega (arith, length-append (take at s) (kept_bytes s pieces), length-take-le at s (tiles_within at (length s) pieces tiled), add_up s at pieces tiled))
