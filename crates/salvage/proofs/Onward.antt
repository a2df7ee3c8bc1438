-- Laws of the pieces: each has a byte and ends within the trace, and the first of those from a place on begins there.
use mathlib.Core.Path.{◌≡◌, refl, sym, ap, subst, ◌∙◌}
use mathlib.Core.List.{List, [], ◌∷◌}
use mathlib.Core.Bool.{Bool, true, false, cond}
use Prim.Native.Nat.{ℕ, zero, suc, ◌+◌, ◌≤◌, ◌<◌}
use native.Mathlib.Omega.{arith}
use lib.ListN.{length}
use lib.Dec.{leb}
use borrow.Author.Tests.{le-leb, lt-leb, leb-true, leb-false}
use Rattle.terms.specs.Reads.{Read}
use Rattle.trace.specs.Reading.{Reading, Given, Refused, Placed, record_at, formed_at}
use Rattle.trace.proofs.Ends.{Within, record_within, formed_within}
use Rattle.salvage.specs.Pieces.{Piece, form_end, sorted, piece_at, pieces_in, pieces_from}

-- ---- one piece

form_end_in : (at all : ℕ) → at < all → (form : Reading Placed) → Within at all form → (at < form_end all form) × (form_end all form ≤ all)
form_end_in at all h (Given r end) w = w
form_end_in at all h (Refused number place) w = omega arith

sorted_in : (at all : ℕ) (r : Reading Read) (last : ℕ) → Within at all r → (at < last) × (last ≤ all)
    → ((sorted at r last).start ≡ at) × (at < (sorted at r last).end) × ((sorted at r last).end ≤ all)
sorted_in at all (Given r end) last w h = (refl, w.0, w.1)
sorted_in at all (Refused number place) last w h = (refl, h.0, h.1)

-- a piece begins where it is looked for, has a byte, and ends within the bytes
pub piece_in : (s : List ℕ) (at : ℕ) → at < length s
    → ((piece_at s at).start ≡ at) × (at < (piece_at s at).end) × ((piece_at s at).end ≤ length s)
unfolding piece_at
piece_in s at h =
    sorted_in at (length s) (record_at s at) _ (record_within s at (omega arith))
    (form_end_in at (length s) h (formed_at s at) (formed_within s at (omega arith)))

-- ---- the pieces from a place on

-- more steps than there are bytes left find no more
enough : (k m : ℕ) (s : List ℕ) (at : ℕ) → length s ≤ at + k → length s ≤ at + m → pieces_in k s at ≡ pieces_in m s at
enough zero zero s at h g = refl
enough zero (suc m) s at h g = rw (le-leb (length s) at (omega arith))
enough (suc k) zero s at h g = rw (le-leb (length s) at (omega arith))
enough (suc k) (suc m) s at h g =
    go (leb (length s) at) refl (λ l. enough k m s (piece_at s at).end (omega (arith, piece_in s at l)) (omega (arith, piece_in s at l)))
  where
    go : (t : Bool) → leb (length s) at ≡ t → (at < length s → pieces_in k s (piece_at s at).end ≡ pieces_in m s (piece_at s at).end)
        → cond t [] (piece_at s at ∷ pieces_in k s (piece_at s at).end) ≡ cond t [] (piece_at s at ∷ pieces_in m s (piece_at s at).end)
    go true e ih = refl
    go false e ih = ap (λ (l : List Piece). piece_at s at ∷ l) (ih (leb-false (length s) at e))

pub pieces_none : (s : List ℕ) (at : ℕ) → length s ≤ at → pieces_from s at ≡ []
unfolding pieces_from
pieces_none s at h = enough (length s) zero s at (omega arith) (omega arith)

pub pieces_more : (s : List ℕ) (at : ℕ) → at < length s → pieces_from s at ≡ piece_at s at ∷ pieces_from s (piece_at s at).end
unfolding pieces_from
pieces_more s at h = enough (length s) (suc (length s)) s at (omega arith) (omega arith) ∙ rw (lt-leb (length s) at h)

-- what holds past the end, and of a piece and those after it if of those, holds of the pieces from any place on
module _ (s : List ℕ) (P : ℕ → List Piece → Type 0) (none : (at : ℕ) → length s ≤ at → P at [])
    (more : (at : ℕ) → at < length s → P (piece_at s at).end (pieces_from s (piece_at s at).end) → P at (piece_at s at ∷ pieces_from s (piece_at s at).end)) where
  by_steps : (k at : ℕ) → length s ≤ at + k → P at (pieces_from s at)
  by_steps zero at h = subst (P at) (sym (pieces_none s at (omega arith))) (none at (omega arith))
  by_steps (suc k) at h = go (leb (length s) at) refl (λ l. by_steps k (piece_at s at).end (omega (arith, piece_in s at l)))
    where
      go : (t : Bool) → leb (length s) at ≡ t → (at < length s → P (piece_at s at).end (pieces_from s (piece_at s at).end)) → P at (pieces_from s at)
      go true e ih = let past = leb-true (length s) at e in subst (P at) (sym (pieces_none s at past)) (none at past)
      go false e ih = let l = leb-false (length s) at e in subst (P at) (sym (pieces_more s at l)) (more at l (ih l))

  pub by_pieces : (at : ℕ) → P at (pieces_from s at)
  by_pieces at = by_steps (length s) at (omega arith)
