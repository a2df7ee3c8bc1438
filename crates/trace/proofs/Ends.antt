-- What is read ends within the bytes, and a refusal's place lies there.
use mathlib.Core.Path.{◌≡◌, subst}
use mathlib.Core.List.{List}
use mathlib.Core.Bool.{Bool, true, false, cond}
use Prim.Native.Nat.{ℕ, ◌+◌, ◌≤◌, ◌<◌}
use native.Mathlib.Omega.{arith}
use lib.ListN.{length}
use Rattle.terms.specs.declared.range.Range.{Range}
use Rattle.terms.specs.Ranges.{in_range, edition, size_up_to, volume, block, priority}
use Rattle.trace.specs.Number.{Numeral, Value, Fault, number_at}
use Rattle.trace.specs.Reading.{Reading, Given, Refused, tested, and_then, field, header_at, Placed, placed_in, placed_at, formed_at, record_at}
use Rattle.trace.proofs.number.Laws.{OfValue}
use Rattle.trace.proofs.Fields.{NumberIn, number_in}

module _ {A : Type 0} where
  -- what was read from a place on has a byte and ends within so many bytes; a refusal's place lies between the two
  abbrev pub Within : (from room : ℕ) → Reading A → Type 0
  Within from room (Given x end) = (from < end) × (end ≤ room)
  Within from room (Refused number place) = (from ≤ place) × (place ≤ room)

  within_cond : (from room : ℕ) (t : Bool) (x y : Reading A) → Within from room x → Within from room y → Within from room (cond t x y)
  within_cond from room true x y f g = f
  within_cond from room false x y f g = g

  within_field : (range : Range) (s : List ℕ) (from at : ℕ) (next : ℕ → ℕ → Reading A) → from ≤ at → at ≤ length s
      → ((v end : ℕ) → at < end → end ≤ length s → Within from (length s) (next v end)) → Within from (length s) (field range s at next)
  within_field range s from at next h g f = go (number_at s at) (number_in s at)
    where
      go : (r : Numeral) → OfValue (NumberIn s at) r → Within from (length s) (tested range at r next)
      go (Value v n) b = within_cond from (length s) (in_range range v) (next v (at + n)) _ (f v (at + n) (omega arith) (omega arith)) (h, g)
      go (Fault number) b = (h, g)

module _ {A B : Type 0} where
  within_then : (from room : ℕ) (r : Reading A) (next : A → ℕ → Reading B) → Within from room r
      → ((x : A) (end : ℕ) → from < end → end ≤ room → Within from room (next x end)) → Within from room (and_then r next)
  within_then from room (Given x end) next h f = f x end h.0 h.1
  within_then from room (Refused number place) next h f = h

pub header_within : (largest : ℕ) (s : List ℕ) (at : ℕ) → at ≤ length s → Within at (length s) (header_at largest s at)
unfolding header_at
header_within largest s at h =
    within_field edition s at at _ (omega arith) h
    (λ e at₁ l₁ h₁. within_field (size_up_to largest) s at at₁ _ (omega arith) h₁
    (λ n at₂ l₂ h₂. omega arith))

placed_within : (volumes priorities : Range) (s : List ℕ) (at : ℕ) → at ≤ length s → Within at (length s) (placed_in volumes priorities s at)
unfolding placed_in
placed_within volumes priorities s at h =
    within_field volumes s at at _ (omega arith) h
    (λ v at₁ l₁ h₁. within_field block s at at₁ _ (omega arith) h₁
    (λ b at₂ l₂ h₂. within_field priorities s at at₂ _ (omega arith) h₂
    (λ p at₃ l₃ h₃. omega arith)))

pub record_within : (s : List ℕ) (at : ℕ) → at ≤ length s → Within at (length s) (record_at s at)
unfolding record_at placed_at
record_within s at h = within_then at (length s) (placed_at s at) _ (placed_within volume priority s at h) (λ r end l g. (l, g))

pub formed_within : (s : List ℕ) (at : ℕ) → at ≤ length s → Within at (length s) (formed_at s at)
unfolding formed_at
formed_within s at h = placed_within _ _ s at h

-- a record that was read from the start ends within the bytes
pub placed_end : (s : List ℕ) (r : Placed) (end : ℕ) → placed_at s 0 ≡ Given r end → end ≤ length s
unfolding placed_at
placed_end s r end e = (subst (Within 0 (length s)) e (placed_within volume priority s 0 (omega arith))).1
