-- One turn over the pieces: what a piece adds to the bytes that are kept and to the entries, from what is told of it.
use mathlib.Core.Path.{◌≡◌, refl, sym, ap, ap₂, subst, ◌∙◌}
use mathlib.Core.List.{List, [], ◌∷◌, ◌++◌, map}
use Prim.Native.Nat.{ℕ, ◌-◌, ◌≤◌, ◌<◌}
use native.Mathlib.Omega.{arith}
use lib.ListN.{length, take, drop}
use Rattle.std.proofs.Common.{Option, Some, None}
use Rattle.std.proofs.lemmas.Grind.{common_steps}
use Rattle.salvage.specs.declared.Entry.{Entry}
use Rattle.salvage.specs.declared.pieces.Piece as the
use Rattle.salvage.specs.declared.listing.Next.{Next}
use Rattle.salvage.specs.Pieces.{Piece, piece_at, pieces_from}
use Rattle.salvage.specs.Good.{kept_bytes}
use Rattle.salvage.specs.Listing.{entry_of, entries_of}
use Rattle.salvage.specs.Steps.{Told, told, piece_told, told_from, kept_from, entries_from, next_at, next_in, next_from}
use Rattle.salvage.proofs.Onward.{piece_in, pieces_none, pieces_more, by_pieces}

-- ---- what is told of pieces

-- these bytes, if there is no number to list a piece under
abbrev kept_if : Option ℕ → List ℕ → List ℕ
kept_if None bytes = bytes
kept_if (Some number) bytes = []

-- the bytes that are kept
abbrev pub kept_told : List ℕ → List Told → List ℕ
kept_told s [] = []
kept_told s (t ∷ ts) = kept_if t.number (take (t.end - t.start) (drop t.start s)) ++ kept_told s ts

-- the entry of a piece with a number, before others
abbrev listed_if : (start end : ℕ) → Option ℕ → List Entry → List Entry
listed_if start end None entries = entries
listed_if start end (Some number) entries = entry_of start (end - start) number ∷ entries

-- the entries
abbrev pub listed_told : List Told → List Entry
listed_told [] = []
listed_told (t ∷ ts) = listed_if t.start t.end t.number (listed_told ts)

-- the entry of a piece with a number, or what comes after one without
abbrev next_if : (start end : ℕ) → Option ℕ → Next → Next
next_if start end None next = next
next_if start end (Some number) next = next_at (entry_of start (end - start) number) end

-- the first entry; zeros where there is none
abbrev pub next_told : ℕ → List Told → Next
next_told at [] = next_at (entry_of 0 0 0) at
next_told at (t ∷ ts) = next_if t.start t.end t.number (next_told t.end ts)

-- each piece lies within the bytes
abbrev pub Inside : List ℕ → List Told → Type 0
Inside s [] = Unit
Inside s (t ∷ ts) = (t.start ≤ t.end) × (t.end ≤ length s) × Inside s ts

-- ---- the pieces from a place on

module _ (s : List ℕ) where
  kept_map : (pieces : List Piece) → kept_told s (map told pieces) ≡ kept_bytes s pieces
  kept_map [] = refl
  kept_map (piece ∷ pieces) = grind (arith, kept_map pieces)

  pub kept_told_from : (at : ℕ) → kept_told s (told_from s at) ≡ kept_from s at
  unfolding told_from kept_from
  kept_told_from at = kept_map (pieces_from s at)

  listed_map : (pieces : List Piece) → listed_told (map told pieces) ≡ entries_of pieces
  listed_map [] = refl
  listed_map (piece ∷ pieces) = grind (arith, listed_map pieces)

  pub listed_told_from : (at : ℕ) → listed_told (told_from s at) ≡ entries_from s at
  unfolding told_from entries_from
  listed_told_from at = listed_map (pieces_from s at)

  next_map : (at : ℕ) (pieces : List Piece) → next_told at (map told pieces) ≡ next_in at pieces
  next_map at [] = refl
  next_map at (piece ∷ pieces) = grind (arith, next_map piece.end pieces)

  pub next_told_from : (at : ℕ) → next_told at (told_from s at) ≡ next_from s at
  unfolding told_from next_from
  next_told_from at = next_map at (pieces_from s at)

  pub in_from : (at : ℕ) → Inside s (told_from s at)
  unfolding told_from
  in_from = by_pieces s (λ at pieces. Inside s (map told pieces)) (λ at past. tt)
      (λ at l ih. let inside = piece_in s at l in (omega (arith, inside), inside.2, ih))

  pub told_none : (at : ℕ) → length s ≤ at → told_from s at ≡ []
  unfolding told_from
  told_none at h = ap (map told) (pieces_none s at h)

  pub told_more : (at : ℕ) (x : the.Piece) → at < length s → piece_told x ≡ told (piece_at s at) → told_from s at ≡ piece_told x ∷ told_from s x.end
  unfolding told_from
  told_more at x h e =
      ap (map told) (pieces_more s at h)
      ∙ ap₂ (λ (t : Told) (end : ℕ). t ∷ told_from s end) (sym e) (sym (ap (λ (t : Told). t.end) e))

-- ---- a turn

module _ (s : List ℕ) (left after : List Told) (x : the.Piece) (e : left ≡ piece_told x ∷ after) where
  pub in_turn : Inside s left → (x.start ≤ x.end) × (x.end ≤ length s) × Inside s after
  in_turn inside = subst (Inside s) e inside

  pub kept_turn : x.left_out ≡ None → kept_told s left ≡ take (x.end - x.start) (drop x.start s) ++ kept_told s after
  kept_turn g = rw (e, g)

-- for the iterator
pub ruleset first_of_pieces = (told_none, told_more)

-- for an entry
pub ruleset next_of_pieces = (common_steps, in_from, next_told_from)
