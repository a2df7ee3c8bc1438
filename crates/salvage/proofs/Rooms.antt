-- How much suffices for any trace: as many bytes as it has, and an entry for each three of them.
use mathlib.Core.Path.{◌≡◌, refl, ap}
use mathlib.Core.List.{List}
use mathlib.Core.Logic.{◌⊎◌, inl, inr}
use Prim.Native.Nat.{ℕ, ◌+◌, ◌*◌, ◌/◌, ◌≤◌, ◌<◌}
use native.Mathlib.Nat.{le_refl}
use native.Mathlib.Omega.{arith}
use lib.ListN.{length, take, length-append}
use lib.Seq.{length-take-le}
use borrow.Author.Tests.{le-leb}
use Rattle.terms.specs.Ranges.{size}
use Rattle.terms.specs.Reads.{Read}
use Rattle.trace.specs.Reading.{Reading, Given, Refused, Placed, Header, header_at, record_at, formed_at}
use Rattle.trace.proofs.Lengths.{formed_length, header_length}
use Rattle.salvage.specs.Pieces.{Fate, Kept, Listed, Piece, form_end, sorted, piece_at, pieces_from, pieces_of}
use Rattle.salvage.specs.Good.{good_of}
use Rattle.salvage.specs.Listing.{with_entry, entries_of, list_of}
use Rattle.salvage.specs.Answers.{Done, salvaging_from, salvaging}
use Rattle.salvage.specs.Steps.{good_after, entries_from, kept_from}
use Rattle.salvage.proofs.Onward.{piece_in, pieces_none, by_pieces}
use Rattle.salvage.proofs.Covers.{kept_within}
use Rattle.salvage.proofs.Headers.{header_in, pieces_after, good_after_lem, list_after_header, salvaging_after, pieces_refused, salvaging_refused}

-- a piece that is listed has three bytes, or is the last
abbrev Long : (at all end : ℕ) → Fate → Type 0
Long at all end (Kept r) = Unit
Long at all end (Listed number) = (at + 3 ≤ end) ⊎ (end ≡ all)

form_long : (s : List ℕ) (at : ℕ) (form : Reading Placed) → formed_at s at ≡ form → (at + 3 ≤ form_end (length s) form) ⊎ (form_end (length s) form ≡ length s)
form_long s at (Given r end) e = inl (formed_length s at r end e)
form_long s at (Refused number place) e = inr refl

piece_long : (s : List ℕ) (at : ℕ) → Long at (length s) (piece_at s at).end (piece_at s at).fate
unfolding piece_at
piece_long s at = go (record_at s at)
  where
    go : (r : Reading Read) → Long at (length s) (sorted at r (form_end (length s) (formed_at s at))).end (sorted at r (form_end (length s) (formed_at s at))).fate
    go (Given r end) = tt
    go (Refused number place) = form_long s at (formed_at s at) refl

entries_few_one : (s : List ℕ) (start at end : ℕ) (f : Fate) → at < end → end ≤ length s → Long at (length s) end f → at + 3 * length (entries_of (pieces_from s end)) ≤ length s + 2
    → end + 3 * length (entries_of (pieces_from s end)) ≤ length s + 2 → at + 3 * length (with_entry start end f (entries_of (pieces_from s end))) ≤ length s + 2
entries_few_one s start at end (Kept r) h g long weak ih = weak
entries_few_one s start at end (Listed number) h g (inl long) weak ih = omega arith
entries_few_one s start at end (Listed number) h g (inr last) weak ih =
    omega (arith, last, ap (λ (pieces : List Piece). length (entries_of pieces)) (pieces_none s end (omega (arith, last))))

pub entries_few : (s : List ℕ) (at : ℕ) → at ≤ length s → at + 3 * length (entries_from s at) ≤ length s + 2
unfolding entries_from
entries_few s = by_pieces s (λ at pieces. at ≤ length s → at + 3 * length (entries_of pieces) ≤ length s + 2)
    (λ at past h. omega arith)
    (λ at l ih h.
    let inside = piece_in s at l in
    let more = ih inside.2 in
    let piece = piece_at s at in
    entries_few_one s piece.start at piece.end piece.fate inside.1 inside.2 (piece_long s at) (omega (arith, inside, more)) more)

module _ (s : List ℕ) where
  module _ (h : Header) (at : ℕ) (e : header_at size.largest s 0 ≡ Given h at) where
    good_low : length (good_after s at) ≤ length s
    unfolding good_after kept_from
    good_low = omega (arith, length-append (take at s) (kept_from s at), length-take-le at s (header_in s h at e), kept_within s at (header_in s h at e))

    list_low : 3 * length (entries_from s at) ≤ length s
    list_low = omega (arith, entries_few s at (header_in s h at e), header_length s 0 size.largest h at (le_refl size.largest) e)

  -- with as many bytes as the trace has and a third as many entries it is salvaged, unless its header is refused
  pub room_enough : (space room : ℕ) → length s ≤ space → length s / 3 ≤ room
      → salvaging s space room ≡ salvaging_from (pieces_of s) (Done (length (good_of s)) (length (list_of s)))
  room_enough space room k l = go (header_at size.largest s 0) refl
    where
      go : (r : Reading Header) → header_at size.largest s 0 ≡ r → salvaging s space room ≡ salvaging_from (pieces_of s) (Done (length (good_of s)) (length (list_of s)))
      go (Given h at) e =
          let list : length (entries_from s at) ≤ room = omega (arith, list_low h at e) in
          rw (salvaging_after s h at e space room, good_after_lem s h at e, list_after_header s h at e, pieces_after s h at e)
          (rw (le-leb (length (good_after s at)) space (omega (arith, good_low h at e)), le-leb (length (entries_from s at)) room list))
      go (Refused number place) e = rw (salvaging_refused s number place e space room, pieces_refused s number place e)
