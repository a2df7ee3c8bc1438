-- The piece that begins at a place, from what the readers of a record answered for the part that starts there.
use mathlib.Core.Path.{◌≡◌, refl, sym, ap}
use mathlib.Core.List.{List}
use Prim.Native.Nat.{ℕ, ◌+◌, ◌-◌, ◌≤◌}
use native.Mathlib.Omega.{arith}
use borrow.Author.Rules.{part_to_end}
use lib.ListN.{length, take, drop, length-drop}
use Rattle.trace.specs.Reading.{Reading, Given, Refused, Placed, placed_at, formed_at}
use Rattle.trace.proofs.Ends.{Within, formed_within}
use Rattle.trace.proofs.Parts.{formed_read, formed_refused, record_read, record_refused, read_in}
use Rattle.salvage.specs.Pieces.{Kept, Listed, form_end, piece_at, piece_of}

module _ (s : List ℕ) (at : ℕ) where
  -- a record ends in the whole where it ends in the part
  pub form_onward : at ≤ length s
      → at + form_end (length (take (length s - at) (drop at s))) (formed_at (take (length s - at) (drop at s)) 0) ≡ form_end (length s) (formed_at s at)
  form_onward h = go (formed_at (take (length s - at) (drop at s)) 0) refl
    where
      go : (r : Reading Placed) → r ≡ formed_at (take (length s - at) (drop at s)) 0
          → at + form_end (length (take (length s - at) (drop at s))) r ≡ form_end (length s) (formed_at s at)
      go (Given x n) e = sym (ap (form_end (length s)) (formed_read s at x n e))
      go (Refused number place) e =
          omega (arith, ap length (part_to_end s at), length-drop at s, ap (form_end (length s)) (formed_refused s at number place e))

  pub form_in : at ≤ length s → form_end (length s) (formed_at s at) ≤ length s
  form_in h = go (formed_at s at) (formed_within s at h)
    where
      go : (r : Reading Placed) → Within at (length s) r → form_end (length s) r ≤ length s
      go (Given x end) w = w.1
      go (Refused number place) w = omega arith

  pub piece_kept : (r : Placed) (n : ℕ) → Given r n ≡ placed_at (take (length s - at) (drop at s)) 0 → piece_at s at ≡ piece_of at (at + n) (Kept r.read)
  unfolding piece_at
  piece_kept r n e = rw (record_read s at r n e)

  pub piece_listed : (number place : ℕ) → Refused number place ≡ placed_at (take (length s - at) (drop at s)) 0
      → piece_at s at ≡ piece_of at (form_end (length s) (formed_at s at)) (Listed number)
  unfolding piece_at
  piece_listed number place e = rw (record_refused s at number place e)

pub ruleset piece_cases = (read_in, form_onward, form_in, piece_kept, piece_listed)
