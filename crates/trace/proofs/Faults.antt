-- The refusals of a trace are those of the table that have a place in it, numbers 1 to 6; with the ranges wide open a record is refused for CUT or FORM alone.
use mathlib.Core.Path.{◌≡◌, refl, sym, subst, ◌∙◌}
use mathlib.Core.List.{List, [], ◌∷◌}
use mathlib.Core.Bool.{Bool, true, false, cond}
use Prim.Native.Nat.{ℕ, zero, suc, ◌+◌, ◌≤◌, ◌<◌}
use native.Mathlib.Omega.{arith}
use lib.ListN.{length, drop}
use lib.Dec.{T as Holds, leb, ltb}
use Rattle.terms.specs.Refusals.{number_of}
use Rattle.terms.specs.declared.range.Range.{Range}
use Rattle.terms.specs.Ranges.{in_range, edition, size_up_to, volume_up_to, volume, block, priority_up_to, priority}
use Rattle.trace.specs.Number.{Numeral, Value, Fault, after, numeral, bytes_before, top_byte, number_at}
use Rattle.trace.specs.Reading.{Found, Reading, Given, Refused, and_then, tested, field, header_at, placed_in, placed_at, formed_at, record_at}
use Rattle.trace.specs.Events.{events_from}
use Rattle.trace.specs.Trace.{at_end, reads_from, trace_of}
use Rattle.trace.specs.Bounds.{number_limit}
use Rattle.trace.proofs.number.Laws.{OfValue}
use Rattle.trace.proofs.Fields.{NumberIn, number_in, block_any}

-- one of the first six
abbrev pub OfTrace : ℕ → Type 0
OfTrace number = (1 ≤ number) × (number ≤ 6)

-- CUT or FORM
abbrev pub OfForm : ℕ → Type 0
OfForm number = (1 ≤ number) × (number ≤ 2)

-- ---- a number

abbrev Faulty : Numeral → Type 0
Faulty (Value v n) = Unit
Faulty (Fault number) = OfForm number

faulty_cond : (t : Bool) (x y : Numeral) → Faulty x → Faulty y → Faulty (cond t x y)
faulty_cond true x y f g = f
faulty_cond false x y f g = g

faulty_after : (byte : ℕ) (r : Numeral) → Faulty r → Faulty (after byte r)
faulty_after byte (Value zero n) f = omega arith
faulty_after byte (Value (suc v) n) f = tt
faulty_after byte (Fault number) f = f

faulty_numeral : (top left : ℕ) (s : List ℕ) → Faulty (numeral top left s)
unfolding numeral
faulty_numeral top zero [] = omega arith
faulty_numeral top zero (byte ∷ s) = faulty_cond (leb byte top) (Value byte 1) _ tt (omega arith)
faulty_numeral top (suc left) [] = omega arith
faulty_numeral top (suc left) (byte ∷ s) = faulty_cond (ltb byte 128) (Value byte 1) (after byte (numeral top left s)) tt (faulty_after byte (numeral top left s) (faulty_numeral top left s))

-- ---- what is read

-- the number of a refusal is such a one
module _ (Such : ℕ → Type 0) where
  module _ {P L A : Type 0} where
    abbrev Refusing : Found P L A → Type 0
    Refusing (Given x end) = Unit
    Refusing (Refused number place) = Such number

    refusing_cond : (t : Bool) (x y : Found P L A) → (t ≡ true → Refusing x) → (t ≡ false → Refusing y) → Refusing (cond t x y)
    refusing_cond true x y f g = f refl
    refusing_cond false x y f g = g refl

  module _ {P L A B : Type 0} where
    refusing_then : (x : Found P L A) (next : A → P → Found P L B) → Refusing x → ((y : A) (end : P) → Refusing (next y end)) → Refusing (and_then x next)
    refusing_then (Given y end) next f g = g y end
    refusing_then (Refused number place) next f g = f

  module _ {P L E : Type 0} (ended : P → Bool) (next : P → Found P L E) (f : (at : P) → Refusing (next at)) where
    refusing_events : (steps : ℕ) (at : P) → Refusing (events_from ended next steps at)
    refusing_events zero at = tt
    refusing_events (suc steps) at =
        refusing_cond (ended at) (Given [] at) _ (λ e. tt)
        (λ e. refusing_then (next at) _ (f at)
        (λ x at₁. refusing_then (events_from ended next steps at₁) _ (refusing_events steps at₁) (λ es at₂. tt)))

  module _ {A : Type 0} (form : (number : ℕ) → OfForm number → Such number) where
    -- a field whose number may be out of its range, for which it is refused with a number such as these
    refusing_field : (range : Range) (s : List ℕ) (at : ℕ) (next : ℕ → ℕ → Reading A)
        → ((v : ℕ) → v < number_limit → in_range range v ≡ false → Such (number_of range.refusal)) → ((v end : ℕ) → Refusing (next v end)) → Refusing (field range s at next)
    refusing_field range s at next own f = go (number_at s at) (faulty_numeral top_byte bytes_before (drop at s)) (number_in s at)
      where
        go : (r : Numeral) → Faulty r → OfValue (NumberIn s at) r → Refusing (tested range at r next)
        go (Value v n) b h = refusing_cond (in_range range v) (next v (at + n)) _ (λ e. f v (at + n)) (λ e. own v h.0 e)
        go (Fault number) b h = form number b

of_form : (number : ℕ) → OfForm number → OfTrace number
of_form number h = omega arith

header_refusing : (largest : ℕ) (s : List ℕ) (at : ℕ) → Refusing OfTrace (header_at largest s at)
unfolding header_at edition
header_refusing largest s at =
    refusing_field OfTrace of_form edition s at _ (λ v h e. omega arith) (λ e at₁. refusing_field OfTrace of_form (size_up_to largest) s at₁ _ (λ v h e. omega arith) (λ n at₂. tt))

placed_refusing : (s : List ℕ) (at : ℕ) → Refusing OfTrace (placed_at s at)
unfolding placed_at placed_in volume block priority
placed_refusing s at =
    refusing_field OfTrace of_form volume s at _ (λ v h e. omega arith)
    (λ v at₁. refusing_field OfTrace of_form block s at₁ _ (λ v h e. omega arith)
    (λ b at₂. refusing_field OfTrace of_form priority s at₂ _ (λ v h e. omega arith) (λ p at₃. tt)))

record_refusing : (s : List ℕ) (at : ℕ) → Refusing OfTrace (record_at s at)
unfolding record_at
record_refusing s at = refusing_then OfTrace (placed_at s at) _ (placed_refusing s at) (λ r end. tt)

reads_refusing : (steps : ℕ) (s : List ℕ) (at : ℕ) → Refusing OfTrace (reads_from steps s at)
unfolding reads_from
reads_refusing steps s at = refusing_events OfTrace (at_end s) (record_at s) (record_refusing s) steps at

trace_refusing : (largest : ℕ) (s : List ℕ) → Refusing OfTrace (trace_of largest s)
unfolding trace_of
trace_refusing largest s =
    refusing_then OfTrace (header_at largest s 0) _ (header_refusing largest s 0) (λ h at. refusing_then OfTrace (reads_from (length s) s at) _ (reads_refusing (length s) s at) (λ rs at₁. tt))

pub trace_refused : (largest : ℕ) (s : List ℕ) (number place : ℕ) → trace_of largest s ≡ Refused number place → OfTrace number
trace_refused largest s number place e = subst (Refusing OfTrace) e (trace_refusing largest s)

-- ---- with the ranges wide open

-- every number is in the block's range, so none is out of one as wide
formed_refusing : (s : List ℕ) (at : ℕ) → Refusing OfForm (formed_at s at)
unfolding formed_at placed_in block
formed_refusing s at =
    refusing_field OfForm (λ number h. h) (volume_up_to block.largest) s at _ none
    (λ v at₁. refusing_field OfForm (λ number h. h) block s at₁ _ none
    (λ b at₂. refusing_field OfForm (λ number h. h) (priority_up_to block.largest) s at₂ _ none (λ p at₃. tt)))
  where
    none : {A : Type 0} (v : ℕ) → v < number_limit → in_range block v ≡ false → A
    none v h e = absurd (subst Holds (sym (block_any v h) ∙ e) tt)

pub formed_faults : (s : List ℕ) (at number place : ℕ) → formed_at s at ≡ Refused number place → OfForm number
formed_faults s at number place e = subst (Refusing OfForm) e (formed_refusing s at)
