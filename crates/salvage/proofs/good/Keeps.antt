-- The output while it is made: what is left to keep, put where it goes on, makes the output that was asked for.
use mathlib.Core.Path.{◌≡◌, sym, ap, ap₂, ◌∙◌}
use mathlib.Core.List.{List, ◌∷◌, ◌++◌}
use Prim.Native.Nat.{ℕ, ◌+◌, ◌-◌, ◌≤◌}
use native.Mathlib.Nat.{zero-add}
use native.Mathlib.Omega.{arith}
use lib.ListN.{length, take, drop, length-append}
use lib.Seq.{length-take-le}
use Rattle.std.proofs.Common.{None}
use Rattle.std.proofs.lemmas.Grind.{common_steps}
use Rattle.terms.specs.Areas.{fronted}
use Rattle.trace.specs.Writing.{put}
use Rattle.trace.proofs.Puts.{put_put, put_length}
use Rattle.salvage.specs.declared.pieces.Piece.{Piece}
use Rattle.salvage.specs.Steps.{Told, piece_told, told_from, kept_from, good_after}
use Rattle.salvage.proofs.Covers.{part_long}
use Rattle.salvage.proofs.Turns.{kept_told, Inside, in_turn, kept_turn, in_from, kept_told_from}
use Rattle.salvage.proofs.Measures.{good_length}

-- what is kept of pieces fits an output from an offset on, and put there it makes another
pub record GoesOn (s : List ℕ) (pieces : List Told) (out : List ℕ) (next : ℕ) (made : List ℕ) : Type 0 where
  pub room : next + length (kept_told s pieces) ≤ length out
  pub makes : put out next (kept_told s pieces) ≡ made

-- a part at the front is put there
at_front : (xs out : List ℕ) → fronted xs out ≡ put out 0 xs
at_front xs out = ap (λ (n : ℕ). xs ++ drop n out) (sym (zero-add (length xs)))

-- the header stands at the front
pub after_head : (s : List ℕ) (at : ℕ) (out head : List ℕ) → at ≤ length s → length (good_after s at) ≤ length out → head ≡ take at s
    → GoesOn s (told_from s at) (put out 0 head) at (fronted (good_after s at) out)
unfolding good_after kept_from
after_head s at out head h g e =
    let kept = kept_told s (told_from s at) in
    let long : 0 + length head ≡ at = omega (arith, length-take-le at s h, ap length e) in
    let room : 0 + length head ≤ length out = omega (arith, good_length s at h) in
    record {
      room = omega (arith, good_length s at h, put_length out 0 head room);
      makes = ap (λ (n : ℕ). put (put out 0 head) n kept) (sym long)
          ∙ put_put out 0 head kept room
          ∙ sym (at_front (head ++ kept) out)
          ∙ ap₂ (λ (l k : List ℕ). fronted (l ++ k) out) e (kept_told_from s at);
    }

-- a piece that is kept goes on the output
pub after_piece : (s : List ℕ) (left after : List Told) (x : Piece) → left ≡ piece_told x ∷ after → Inside s left → x.left_out ≡ None
    → (out : List ℕ) (next : ℕ) (made last : List ℕ) → GoesOn s left out next made → last ≡ take (x.end - x.start) (drop x.start s)
    → GoesOn s after (put out next last) (next + (x.end - x.start)) made
after_piece s left after x e inside g out next made last on f =
    let n : ℕ = x.end - x.start in
    let within = in_turn s left after x e inside in
    let turn = kept_turn s left after x e g in
    let long : length last ≡ n = ap length f ∙ part_long s x.start n (omega (arith, within)) in
    let whole : kept_told s left ≡ last ++ kept_told s after = turn ∙ ap (λ (l : List ℕ). l ++ kept_told s after) (sym f) in
    let room : next + length last ≤ length out = omega (arith, on.room, ap length whole, length-append last (kept_told s after)) in
    record {
      room = omega (arith, on.room, ap length whole, length-append last (kept_told s after), put_length out next last room, long);
      makes = ap (λ (m : ℕ). put (put out next last) (next + m) (kept_told s after)) (sym long)
          ∙ put_put out next last (kept_told s after) room
          ∙ ap (put out next) (sym whole)
          ∙ on.makes;
    }

pub ruleset keeps = (common_steps, in_from, good_length, after_head, after_piece)
