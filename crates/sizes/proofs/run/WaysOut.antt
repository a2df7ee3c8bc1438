-- The ways out of the run, from the answer of the header reader, by those of every run.
use mathlib.Core.Path.{◌≡◌, refl, sym, ap, subst, ◌∙◌}
use mathlib.Core.List.{List, ◌++◌}
use mathlib.Core.Bool.{Bool, true, false, ◌&&◌, cond}
use Prim.Native.Nat.{ℕ, ◌≤◌}
use native.Mathlib.Omega.{arith}
use lib.Dec.{leb}
use lib.ListN.{length, drop, length-replicate}
use borrow.Author.Tests.{leb-true}
use Rattle.terms.specs.declared.Refusal.TheVariants.{Room}
use Rattle.terms.specs.Refusals.{number_of}
use Rattle.terms.specs.Ranges.{size_up_to, size}
use Rattle.terms.specs.Reads.{Read}
use Rattle.terms.specs.Areas.{zeros, fronted}
use Rattle.terms.proofs.Ranges.{and_both, bounds}
use Rattle.trace.specs.Reading.{Reading, Given, Refused, Header, header_at}
use Rattle.trace.specs.Trace.{reads_from}
use Rattle.trace.proofs.Ends.{Within, header_within}
use Rattle.trace.proofs.OneSpelling.{Gives}
use Rattle.trace.proofs.Lengths.{header_given}
use Rattle.counts.specs.Columns.{counts_length, counts_of}
use Rattle.counts.proofs.Tables.{counts_length_lem}
use Rattle.engine.specs.Rows.{stretches_length}
use Rattle.pass.specs.Outcome.{Answer, refused}
use Rattle.pass.specs.Frame.{Gate, Open, Shut, leaves}
use Rattle.pass.specs.declared.answers.Report.{Report}
use Rattle.pass.proofs.Frames.{header_refused, gate_shut, after_events}
use Rattle.sizes.specs.Outcome.{Areas, Outcome, is_room, room_gate, emptied, frame_of, run_of}
use Rattle.sizes.specs.Passing.{answer_after, counts_after}
use Rattle.sizes.specs.Answers.{areas_of}

-- ---- the areas

counts_after_length : (n : ℕ) (x : Reading (List Read)) → length (counts_after n x) ≡ counts_length n
counts_after_length n (Given rs at) = counts_length_lem n rs
counts_after_length n (Refused number place) = length-replicate {A = ℕ} (counts_length n) 0

-- what is left after the records
abbrev pub left_after : ℕ → Areas → Reading (List Read) → Areas
left_after n areas x = leaves (λ rs. emptied n (counts_of n rs) areas) (emptied n (zeros (counts_length n)) areas) x

left_after_lem : (n : ℕ) (areas : Areas) (x : Reading (List Read)) → left_after n areas x ≡ emptied n (counts_after n x) areas
left_after_lem n areas (Given rs at) = refl
left_after_lem n areas (Refused number place) = refl

-- a part at the front that has come back
fronted_is : (front last area : List ℕ) (k : ℕ) → last ≡ front → length front ≡ k → last ++ drop k area ≡ fronted front area
fronted_is front last area k e l = ap (λ (x : List ℕ). x ++ drop k area) e ∙ ap (λ (i : ℕ). front ++ drop i area) (sym l)

-- what the pass leaves in the fronts of the areas is the outcome
module _ (blocks stretches counts : List ℕ) (n : ℕ) (x : Reading (List Read)) (o : Outcome) where
  pub fronts_out : o ≡ record { answer = answer_after n x; areas = left_after n (areas_of blocks stretches counts) x }
      → (answer : Answer Report ℕ) (blocks₁ stretches₁ counts₁ : List ℕ) (width : ℕ)
      → answer ≡ answer_after n x → blocks₁ ≡ zeros n → stretches₁ ≡ zeros (stretches_length n) → counts₁ ≡ counts_after n x → width ≡ stretches_length n
      → (answer ≡ o.answer) × (blocks₁ ++ drop n blocks ≡ o.areas.blocks) × (stretches₁ ++ drop width stretches ≡ o.areas.stretches) × (counts₁ ++ drop (counts_length n) counts ≡ o.areas.counts)
  fronts_out e answer blocks₁ stretches₁ counts₁ width f g h i w =
      rw (e, left_after_lem n (areas_of blocks stretches counts) x) (
        f,
        fronted_is (zeros n) blocks₁ blocks n g (length-replicate {A = ℕ} n 0),
        fronted_is (zeros (stretches_length n)) stretches₁ stretches width h (length-replicate {A = ℕ} (stretches_length n) 0 ∙ sym w),
        fronted_is (counts_after n x) counts₁ counts (counts_length n) i (counts_after_length n x),
      )

-- the gate, by a test
abbrev shut_unless : Bool → Gate ℕ
shut_unless t = cond t Open (Shut (number_of Room) 0)

-- ---- the header

module _ (s : List ℕ) where
  -- the size is in its range, and the header ends within the trace
  pub header_in : (h : Header) (at : ℕ) → Given h at ≡ header_at size.largest s 0 → (1 ≤ h.size) × (h.size ≤ size.largest) × (at ≤ length s)
  header_in h at e =
      let good = bounds (size_up_to size.largest) h.size (subst (Gives _) (sym e) (header_given size.largest s 0)).0.1 in
      (good.0, good.1, (subst (Within 0 (length s)) (sym e) (header_within size.largest s 0 (omega arith))).1)

  module _ (areas : Areas) where
    pub out_refused : (number place : ℕ) → Refused number place ≡ header_at size.largest s 0 → run_of s areas ≡ refused number place areas
    out_refused number place e = header_refused (frame_of s) areas number place (sym e)

    module _ (h : Header) (at : ℕ) (e : Given h at ≡ header_at size.largest s 0) (t : Bool) (f : t ≡ is_room h.size areas) where
      gate_by : (u : Bool) → t ≡ u → room_gate h.size areas ≡ shut_unless u
      gate_by u g = ap (λ (b : Bool). shut_unless b) (sym f ∙ g)

      pub out_of_room : t ≡ false → run_of s areas ≡ refused (number_of Room) 0 areas
      out_of_room g = gate_shut (frame_of s) areas h at (sym e) (number_of Room) 0 (gate_by false g)

      pub out_passed : t ≡ true → run_of s areas ≡ record { answer = answer_after h.size (reads_from (length s) s at); areas = left_after h.size areas (reads_from (length s) s at) }
      out_passed g = after_events (frame_of s) areas h at (sym e) (gate_by true g) (reads_from (length s) s at) refl

-- ---- room

pub room_in : (n blocks stretches counts : ℕ) (t : Bool)
    → t ≡ (leb n blocks && (leb (stretches_length n) stretches && leb (counts_length n) counts)) → t ≡ true
    → (n ≤ blocks) × (stretches_length n ≤ stretches) × (counts_length n ≤ counts)
room_in n blocks stretches counts t e h =
    let one = and_both (leb n blocks) _ (sym e ∙ h) in
    let two = and_both (leb (stretches_length n) stretches) (leb (counts_length n) counts) one.1 in
    (leb-true n blocks one.0, leb-true (stretches_length n) stretches two.0, leb-true (counts_length n) counts two.1)
