-- What is salvaged, from what the reader of the header finds.
use mathlib.Core.Path.{◌≡◌, subst}
use mathlib.Core.List.{List}
use Prim.Native.Nat.{ℕ, ◌≤◌}
use native.Mathlib.Omega.{arith}
use lib.ListN.{length}
use Rattle.terms.specs.Ranges.{size}
use Rattle.trace.specs.Reading.{Given, Refused, Header, header_at}
use Rattle.trace.proofs.Ends.{Within, header_within}
use Rattle.salvage.specs.Pieces.{pieces_from, pieces_of}
use Rattle.salvage.specs.Good.{good_of}
use Rattle.salvage.specs.Listing.{list_of}
use Rattle.salvage.specs.Answers as answers
use Rattle.salvage.specs.Answers.{spaced, salvaging}
use Rattle.salvage.specs.Steps.{kept_from, good_after, entries_from, start_of}

module _ (s : List ℕ) where
  -- a header that ends at a place
  module _ (h : Header) (at : ℕ) (e : header_at size.largest s 0 ≡ Given h at) where
    -- it ends within the bytes
    pub header_in : at ≤ length s
    header_in = (subst (Within 0 (length s)) e (header_within size.largest s 0 (omega arith))).1

    pub pieces_after : pieces_of s ≡ Given (pieces_from s at) at
    unfolding pieces_of
    pieces_after = rw e

    pub start_after : start_of (pieces_of s) ≡ at
    start_after = rw pieces_after

    pub good_after_lem : good_of s ≡ good_after s at
    unfolding good_of good_after kept_from
    good_after_lem = rw pieces_after

    pub list_after_header : list_of s ≡ entries_from s at
    unfolding list_of entries_from
    list_after_header = rw pieces_after

    pub salvaging_after : (space room : ℕ) → salvaging s space room ≡ spaced (length (good_after s at)) (length (entries_from s at)) space room
    unfolding salvaging
    salvaging_after space room = rw (pieces_after, good_after_lem, list_after_header)

  -- a header that is refused
  module _ (number place : ℕ) (e : header_at size.largest s 0 ≡ Refused number place) where
    pub pieces_refused : pieces_of s ≡ Refused number place
    unfolding pieces_of
    pieces_refused = rw e

    pub salvaging_refused : (space room : ℕ) → salvaging s space room ≡ answers.Refused number place
    unfolding salvaging
    salvaging_refused space room = rw pieces_refused
