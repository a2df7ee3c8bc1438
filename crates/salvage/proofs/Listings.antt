-- The list is what the entries that are found one after the other make it.
use mathlib.Core.Path.{◌≡◌, refl, sym, ap, ◌∙◌}
use mathlib.Core.List.{List, [], ◌∷◌, ◌++◌}
use mathlib.Core.Bool.{Bool, true, false, ◌&&◌, cond}
use Prim.Native.Nat.{ℕ, zero, suc, ◌+◌, ◌≤◌}
use native.Mathlib.Nat.{zero-add}
use native.Mathlib.Omega.{arith}
use lib.Dec.{leb}
use lib.ListN.{length, drop, set, length-set}
use borrow.Author.Tests.{leb-true}
use Rattle.terms.proofs.Ranges.{and_both}
use Rattle.terms.specs.declared.Refusal.TheVariants.{Space}
use Rattle.terms.specs.Refusals.{number_of}
use Rattle.terms.specs.Ranges.{size}
use Rattle.trace.specs.Reading.{Reading, Given, Refused, Header, header_at}
use Rattle.trace.specs.Writing.{put}
use Rattle.trace.proofs.Puts.{put_none, put_cons}
use Rattle.salvage.specs.declared.Entry.{Entry}
use Rattle.salvage.specs.Pieces.{Fate, Kept, Listed, Piece, piece_at, pieces_from, pieces_of}
use Rattle.salvage.specs.Good.{good_of}
use Rattle.salvage.specs.Listing.{with_entry, entries_of, list_of}
use Rattle.salvage.specs.Answers.{Salvaging, Done, Unplaced, spaced, salvaging_from, salvaging, area_after}
use Rattle.salvage.specs.Steps.{good_after, entries_from, or_next, next_in, next_from, written, entries_told, start_of}
use Rattle.salvage.proofs.Onward.{by_pieces}
use Rattle.salvage.proofs.Headers.{start_after, list_after_header, salvaging_after, salvaging_refused}

-- ---- one entry after the other

-- the first of some entries is the next one, and the others come after its piece
abbrev NextFirst : List ℕ → ℕ → List Piece → Type 0
NextFirst s at pieces = (n : ℕ) → length (entries_of pieces) ≡ suc n → entries_of pieces ≡ (next_in at pieces).entry ∷ entries_from s (next_in at pieces).at

next_first : (s : List ℕ) (at : ℕ) (piece : Piece) → NextFirst s piece.end (pieces_from s piece.end) → NextFirst s at (piece ∷ pieces_from s piece.end)
unfolding entries_from
next_first s at piece ih n = go piece.fate
  where
    go : (f : Fate) → length (with_entry piece.start piece.end f (entries_of (pieces_from s piece.end))) ≡ suc n
        → with_entry piece.start piece.end f (entries_of (pieces_from s piece.end))
        ≡ (or_next piece.start piece.end f (next_in piece.end (pieces_from s piece.end))).entry
        ∷ entries_from s (or_next piece.start piece.end f (next_in piece.end (pieces_from s piece.end))).at
    go (Kept r) e = ih n e
    go (Listed number) e = refl

some_entry : (s : List ℕ) (at n : ℕ) → length (entries_from s at) ≡ suc n → entries_from s at ≡ (next_from s at).entry ∷ entries_from s (next_from s at).at
unfolding entries_from next_from
some_entry s at = by_pieces s (NextFirst s) (λ at past n e. absurd (omega (arith, e))) (λ at l ih. next_first s at (piece_at s at) ih) at

written_put : (n : ℕ) (s : List ℕ) (at index : ℕ) (list : List Entry) → length (entries_from s at) ≡ n → index + n ≤ length list
    → written n s at index list ≡ put list index (entries_from s at)
written_put zero s at index list e h = sym (put_none list index) ∙ ap (put list index) (none (entries_from s at) e)
  where
    none : (es : List Entry) → length es ≡ 0 → [] ≡ es
    none [] e = refl
    none (x ∷ es) e = absurd (omega (arith, e))
written_put (suc n) s at index list e h =
    let next = next_from s at in
    let more = some_entry s at n e in
    written_put n s next.at (index + 1) (set list index next.entry) (omega (arith, e, ap length more)) (omega (arith, length-set list index next.entry))
    ∙ put_cons list index next.entry (entries_from s next.at) (omega arith)
    ∙ ap (put list index) (sym more)

-- ---- what an answer asks for

told_spaced : (bytes entries space room : ℕ) (t : Bool) → leb bytes space && leb entries room ≡ t → entries_told (cond t (Done bytes entries) (Unplaced (number_of Space))) ≤ room
told_spaced bytes entries space room true e = leb-true entries room (and_both (leb bytes space) (leb entries room) e).1
told_spaced bytes entries space room false e = omega arith

told_from : (found : Reading (List Piece)) (answer : Salvaging) (room : ℕ) → entries_told answer ≤ room → entries_told (salvaging_from found answer) ≤ room
told_from (Given pieces at) answer room h = h
told_from (Refused number place) answer room h = omega arith

-- no more entries than there is room for
pub told_fit : (s : List ℕ) (space room : ℕ) → entries_told (salvaging s space room) ≤ room
unfolding salvaging
told_fit s space room =
    told_from (pieces_of s) (spaced (length (good_of s)) (length (list_of s)) space room) room
    (told_spaced (length (good_of s)) (length (list_of s)) space room (leb (length (good_of s)) space && leb (length (list_of s)) room) refl)

-- the entries that an answer asks for, written, are the list after it
pub list_after : (s : List ℕ) (space : ℕ) (list : List Entry)
    → written (entries_told (salvaging s space (length list))) s (start_of (pieces_of s)) 0 list ≡ area_after (salvaging s space (length list)) (list_of s) list
list_after s space list = go (header_at size.largest s 0) refl
  where
    spaced_list : (at bytes : ℕ) (t : Bool) → leb bytes space && leb (length (entries_from s at)) (length list) ≡ t
        → written (entries_told (cond t (Done bytes (length (entries_from s at))) (Unplaced (number_of Space)))) s at 0 list
        ≡ area_after (cond t (Done bytes (length (entries_from s at))) (Unplaced (number_of Space))) (entries_from s at) list
    spaced_list at bytes true e =
        written_put (length (entries_from s at)) s at 0 list refl (omega (arith, leb-true (length (entries_from s at)) (length list) (and_both (leb bytes space) (leb (length (entries_from s at)) (length list)) e).1))
        ∙ ap (λ (n : ℕ). entries_from s at ++ drop n list) (zero-add (length (entries_from s at)))
    spaced_list at bytes false e = refl

    go : (r : Reading Header) → header_at size.largest s 0 ≡ r
        → written (entries_told (salvaging s space (length list))) s (start_of (pieces_of s)) 0 list ≡ area_after (salvaging s space (length list)) (list_of s) list
    go (Given h at) e =
        rw (salvaging_after s h at e space (length list), start_after s h at e, list_after_header s h at e)
        (spaced_list at (length (good_after s at)) (leb (length (good_after s at)) space && leb (length (entries_from s at)) (length list)) refl)
    go (Refused number place) e = rw (salvaging_refused s number place e space (length list))
