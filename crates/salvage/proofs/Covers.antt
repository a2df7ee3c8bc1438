-- The pieces lie end to end, so what is kept and what is listed cover the bytes after the header, each once and in order.
use mathlib.Core.Path.{◌≡◌, refl, sym, ap, ap₂, ◌∙◌}
use mathlib.Core.List.{List, [], ◌∷◌, ◌++◌}
use Prim.Native.Nat.{ℕ, ◌+◌, ◌-◌, ◌≤◌}
use native.Mathlib.Omega.{arith}
use lib.ListN.{length, take, drop, length-append, length-drop, drop_of_length-le, take-append-drop}
use lib.Seq.{drop-drop, length-take-le}
use Rattle.salvage.specs.declared.Entry.{Entry}
use Rattle.salvage.specs.Pieces.{Fate, Kept, Listed, Piece, pieces_from}
use Rattle.salvage.specs.Good.{bytes_of, kept_only, kept_bytes}
use Rattle.salvage.specs.Listing.{with_entry, entries_of}
use Rattle.salvage.specs.Cover.{Tiles, all_bytes, listed_length}
use Rattle.salvage.specs.Steps.{kept_from, entries_from}
use Rattle.salvage.proofs.Onward.{piece_in, by_pieces}

-- a part of so many bytes from a place on is so long
pub part_long : (s : List ℕ) (at n : ℕ) → at + n ≤ length s → length (take n (drop at s)) ≡ n
part_long s at n h = length-take-le n (drop at s) (omega (arith, length-drop at s))

pub tiles : (s : List ℕ) (at : ℕ) → at ≤ length s → Tiles at (pieces_from s at) (length s)
tiles s = by_pieces s (λ at pieces. at ≤ length s → Tiles at pieces (length s))
    (λ at past h. omega arith)
    (λ at l ih h. let inside = piece_in s at l in (inside.0, (inside.1, ih inside.2)))

-- ---- pieces that lie end to end

-- their bytes are those between the two places
pub tiles_cover : (s : List ℕ) (at : ℕ) (pieces : List Piece) → Tiles at pieces (length s) → all_bytes s pieces ≡ drop at s
tiles_cover s at [] t = sym (drop_of_length-le s {i = at} (omega (arith, t)))
tiles_cover s at (piece ∷ pieces) t =
    ap₂ (λ (k m : List ℕ). k ++ m) (ap (λ (n : ℕ). take (piece.end - n) (drop n s)) t.0) (tiles_cover s piece.end pieces t.1.1 ∙ sym past)
    ∙ take-append-drop (piece.end - at) (drop at s)
  where
    past : drop (piece.end - at) (drop at s) ≡ drop piece.end s
    past = let end : at + (piece.end - at) ≡ piece.end = omega (arith, t.1.0) in drop-drop (piece.end - at) at s ∙ ap (λ (n : ℕ). drop n s) end

-- they end within the bytes
pub tiles_within : (at end : ℕ) (pieces : List Piece) → Tiles at pieces end → at ≤ end
tiles_within at end [] t = omega (arith, t)
tiles_within at end (piece ∷ pieces) t = omega (arith, t.1.0, tiles_within piece.end end pieces t.1.1)

-- a piece is kept or listed, so the bytes of the one kind and of the other make up all
add_up_one : (s : List ℕ) (start end : ℕ) (f : Fate) (rest : List ℕ) (entries : List Entry) → start ≤ end → end ≤ length s
    → length (kept_only f (take (end - start) (drop start s)) ++ rest) + listed_length (with_entry start end f entries) ≡ (end - start) + (length rest + listed_length entries)
add_up_one s start end (Kept r) rest entries h g =
    omega (arith, length-append (take (end - start) (drop start s)) rest, part_long s start (end - start) (omega arith))
add_up_one s start end (Listed number) rest entries h g = omega arith

pub add_up : (s : List ℕ) (at : ℕ) (pieces : List Piece) → Tiles at pieces (length s)
    → at + (length (kept_bytes s pieces) + listed_length (entries_of pieces)) ≡ length s
add_up s at [] t = omega (arith, t)
add_up s at (piece ∷ pieces) t =
    let within = tiles_within piece.end (length s) pieces t.1.1 in
    omega (
      arith,
      t.0,
      t.1.0,
      add_up s piece.end pieces t.1.1,
      add_up_one s piece.start piece.end piece.fate (kept_bytes s pieces) (entries_of pieces) (omega (arith, t.0, t.1.0)) within,
    )

-- ---- those from a place on

kept_and_listed : (s : List ℕ) (at : ℕ) → at ≤ length s → at + (length (kept_from s at) + listed_length (entries_from s at)) ≡ length s
unfolding kept_from entries_from
kept_and_listed s at h = add_up s at (pieces_from s at) (tiles s at h)

pub kept_within : (s : List ℕ) (at : ℕ) → at ≤ length s → at + length (kept_from s at) ≤ length s
kept_within s at h = omega (arith, kept_and_listed s at h)

-- where nothing is listed all bytes are kept
pub none_listed : (s : List ℕ) (pieces : List Piece) → entries_of pieces ≡ [] → kept_bytes s pieces ≡ all_bytes s pieces
none_listed s [] e = refl
none_listed s (piece ∷ pieces) e = go piece.fate e (λ g. none_listed s pieces g)
  where
    go : (f : Fate) → with_entry piece.start piece.end f (entries_of pieces) ≡ [] → (entries_of pieces ≡ [] → kept_bytes s pieces ≡ all_bytes s pieces)
        → kept_only f (bytes_of s piece) ++ kept_bytes s pieces ≡ bytes_of s piece ++ all_bytes s pieces
    go (Kept r) e ih = ap (λ (l : List ℕ). bytes_of s piece ++ l) (ih e)
    go (Listed number) e ih = cc
