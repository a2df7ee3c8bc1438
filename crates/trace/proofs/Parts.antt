-- Laws of one record within a trace: read from its place on it is the record of the part that starts there.
use mathlib.Core.Path.{◌≡◌, refl, sym, ap, subst, ◌∙◌}
use mathlib.Core.List.{List}
use mathlib.Core.Bool.{Bool, true, false, cond}
use Prim.Native.Nat.{ℕ, ◌+◌, ◌-◌, ◌≤◌}
use native.Mathlib.Nat.{add-zero, add_assoc}
use native.Mathlib.Omega.{arith}
use lib.ListN.{length, take, drop}
use lib.Seq.{drop-drop}
use borrow.Author.Rules.{part_to_end}
use Rattle.terms.specs.Refusals.{number_of}
use Rattle.terms.specs.declared.range.Range.{Range}
use Rattle.terms.specs.Ranges.{in_range, volume, block, priority}
use Rattle.terms.specs.Reads.{Read, ReadOk}
use Rattle.trace.specs.Number.{Numeral, Value, Fault, numeral, number_at, top_byte, bytes_before}
use Rattle.trace.specs.Reading.{Reading, Given, Refused, tested, field, Placed, placed_of, placed_in, placed_at, formed_at, record_at}
use Rattle.trace.proofs.Ends.{Within, record_within}
use Rattle.trace.proofs.OneSpelling.{Gives}
use Rattle.trace.proofs.Lengths.{record_given, record_length}

-- ---- the part that starts at a place

module _ {A : Type 0} (shift : A → A) where
  -- a reading of a part, as one of the whole
  abbrev onward : ℕ → Reading A → Reading A
  onward at (Given x end) = Given (shift x) (at + end)
  onward at (Refused number place) = Refused number (at + place)

  onward_cond : (at : ℕ) (t : Bool) (x y : Reading A) → onward at (cond t x y) ≡ cond t (onward at x) (onward at y)
  onward_cond at true x y = refl
  onward_cond at false x y = refl

  onward_field : (range : Range) (s : List ℕ) (at i : ℕ) (next after : ℕ → ℕ → Reading A)
      → ((v k : ℕ) → onward at (next v k) ≡ after v (at + k)) → onward at (field range (drop at s) i next) ≡ field range s (at + i) after
  onward_field range s at i next after f =
      ap (λ (l : List ℕ). onward at (tested range i (numeral top_byte bytes_before l) next)) (drop-drop i at s) ∙ go (number_at s (at + i))
    where
      go : (r : Numeral) → onward at (tested range i r next) ≡ tested range (at + i) r after
      go (Value v n) =
          onward_cond at (in_range range v) (next v (i + n)) _ ∙ ap (λ (x : Reading A). cond (in_range range v) x (Refused (number_of range.refusal) (at + i))) (f v (i + n) ∙ ap (after v) (sym (add_assoc at i n)))
      go (Fault number) = refl

-- the priority's place counts from the start of the part too
abbrev pub shifted : ℕ → Placed → Placed
shifted at x = placed_of x.read (at + x.priority_at)

onward_placed : (volumes priorities : Range) (s : List ℕ) (at : ℕ)
    → onward (shifted at) at (placed_in volumes priorities (drop at s) 0) ≡ placed_in volumes priorities s at
unfolding placed_in
onward_placed volumes priorities s at =
    onward_field (shifted at) volumes s at 0 _ _
    (λ v i. onward_field (shifted at) block s at i _ _
    (λ b j. onward_field (shifted at) priorities s at j _ _ (λ p k. refl)))
    ∙ ap (placed_in volumes priorities s) (add-zero at)

module _ (s : List ℕ) (at : ℕ) where
  -- in any ranges
  of_part : (volumes priorities : Range) (r : Reading Placed) → r ≡ placed_in volumes priorities (take (length s - at) (drop at s)) 0
      → placed_in volumes priorities s at ≡ onward (shifted at) at r
  of_part volumes priorities r e =
      sym (ap (onward (shifted at) at) (e ∙ ap (λ (l : List ℕ). placed_in volumes priorities l 0) (part_to_end s at)) ∙ onward_placed volumes priorities s at)

  -- wide open
  pub formed_read : (r : Placed) (n : ℕ) → Given r n ≡ formed_at (take (length s - at) (drop at s)) 0 → formed_at s at ≡ Given (shifted at r) (at + n)
  unfolding formed_at
  formed_read r n e = of_part _ _ (Given r n) e

  pub formed_refused : (number place : ℕ) → Refused number place ≡ formed_at (take (length s - at) (drop at s)) 0 → formed_at s at ≡ Refused number (at + place)
  unfolding formed_at
  formed_refused number place e = of_part _ _ (Refused number place) e

  -- those of the format
  pub placed_read : (r : Placed) (n : ℕ) → Given r n ≡ placed_at (take (length s - at) (drop at s)) 0 → placed_at s at ≡ Given (shifted at r) (at + n)
  unfolding placed_at
  placed_read r n e = of_part volume priority (Given r n) e

  pub record_read : (r : Placed) (n : ℕ) → Given r n ≡ placed_at (take (length s - at) (drop at s)) 0 → record_at s at ≡ Given r.read (at + n)
  unfolding record_at placed_at
  record_read r n e = rw (of_part volume priority (Given r n) e)

  pub record_refused : (number place : ℕ) → Refused number place ≡ placed_at (take (length s - at) (drop at s)) 0 → record_at s at ≡ Refused number (at + place)
  unfolding record_at placed_at
  record_refused number place e = rw (of_part volume priority (Refused number place) e)

-- ---- what holds of a record

-- its numbers are in their ranges, and it has three bytes and ends within the bytes
pub given_good : (s : List ℕ) (at : ℕ) (r : Read) (end : ℕ) → at ≤ length s → record_at s at ≡ Given r end → ReadOk r × (at + 3 ≤ end) × (end ≤ length s)
given_good s at r end h e =
    ((subst (Gives _) e (record_given s at)).0, (record_length s at r end e).0, (subst (Within at (length s)) e (record_within s at h)).1)

refused_in : (s : List ℕ) (at number place : ℕ) → at ≤ length s → record_at s at ≡ Refused number place → place ≤ length s
refused_in s at number place h e = (subst (Within at (length s)) e (record_within s at h)).1

-- where it ends, and where its fault is
module _ (s : List ℕ) (at : ℕ) (h : at ≤ length s) where
  pub read_in : (r : Placed) (n : ℕ) → Given r n ≡ placed_at (take (length s - at) (drop at s)) 0 → (3 ≤ n) × (at + n ≤ length s)
  read_in r n e = let good = given_good s at r.read (at + n) h (record_read s at r n e) in (omega arith, omega arith)

  pub place_in : (number place : ℕ) → Refused number place ≡ placed_at (take (length s - at) (drop at s)) 0 → at + place ≤ length s
  place_in number place e = refused_in s at number (at + place) h (record_refused s at number place e)
