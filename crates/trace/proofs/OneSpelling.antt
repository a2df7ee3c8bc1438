-- What is accepted is byte for byte its one spelling.
use mathlib.Core.Path.{◌≡◌, refl, sym, ap, ap₂, subst, ◌∙◌}
use mathlib.Core.List.{List, [], ◌∷◌, ◌++◌, append_assoc}
use mathlib.Core.Bool.{Bool, true, false, cond}
use Prim.Native.Nat.{ℕ, zero, suc, ◌+◌, ◌-◌, ◌*◌, ◌/◌, ◌%◌, ◌≤◌, ◌<◌}
use native.Mathlib.Numerals.{add-one}
use native.Mathlib.Nat.{add-zero}
use native.Mathlib.Omega.{arith}
use lib.ListN.{length, take, drop, take-append-drop}
use lib.Seq.{get_or-drop, drop-drop}
use lib.Dec.{ltb, leb}
use borrow.Author.Tests.{le-ltb, ltb-true, ltb-false}
use Rattle.terms.specs.declared.range.Range.{Range}
use Rattle.terms.specs.Ranges.{in_range, edition, size_up_to, volume, block, priority}
use Rattle.trace.specs.Number.{Numeral, Value, Fault, after, numeral, number_at, top_byte, bytes_before}
use Rattle.terms.specs.Reads.{Read, ReadOk}
use Rattle.trace.specs.Reading.{Found, Reading, Given, Refused, and_then, tested, field, Header, header_at, Placed, placed_in, placed_at, record_at}
use Rattle.trace.specs.Spelling.{spell, spelling, spellings, header_values, read_values, Bytes}
use Rattle.terms.specs.declared.Refusal.TheVariants.{Form}
use Rattle.terms.specs.Refusals.{number_of}
use Rattle.trace.proofs.number.Laws.{OfValue, holds_cond, holds_after}
use Rattle.trace.proofs.Fields.{NumberIn, number_in}
use Rattle.trace.proofs.spelling.Laws.{spell_low, length_cons}

-- ---- a number

-- so many bytes of a list are the spelling of a value
abbrev SpelledAs : (left : ℕ) → List ℕ → ℕ → ℕ → Type 0
SpelledAs left s v n = take n s ≡ spell left v

spelled_after : (left byte : ℕ) (s : List ℕ) (v n : ℕ) → 128 ≤ byte → byte < 256 → 1 ≤ v → SpelledAs left s v n → SpelledAs (suc left) (byte ∷ s) (byte % 128 + 128 * v) (n + 1)
unfolding spell
spelled_after left byte s v n low high one h =
    rw (add-one n, le-ltb (byte % 128 + 128 * v) 128 (omega arith)) (ap₂ (λ (x : ℕ) (l : List ℕ). x ∷ l) same_byte (h ∙ ap (spell left) same_rest))
  where
    same_byte : byte ≡ 128 + (byte % 128 + 128 * v) % 128
    same_byte = omega arith

    same_rest : v ≡ (byte % 128 + 128 * v) / 128
    same_rest = omega arith

pub numeral_spelled : (top left : ℕ) (s : List ℕ) → Bytes s → OfValue (SpelledAs left s) (numeral top left s)
unfolding numeral spell
numeral_spelled top zero [] y = tt
numeral_spelled top zero (byte ∷ s) y =
    holds_cond (SpelledAs zero (byte ∷ s)) (leb byte top) (Value byte 1) (Fault (number_of Form)) (λ e. refl) (λ e. tt)
numeral_spelled top (suc left) [] y = tt
numeral_spelled top (suc left) (byte ∷ s) y =
    holds_cond (SpelledAs (suc left) (byte ∷ s)) (ltb byte 128) (Value byte 1) (after byte (numeral top left s))
    (λ e. sym (spell_low (suc left) byte (ltb-true byte 128 e)))
    (λ e. holds_after (SpelledAs left s) (SpelledAs (suc left) (byte ∷ s)) byte (numeral top left s) (λ v n one h. spelled_after left byte s v n (ltb-false byte 128 e) (y 0) one h) (numeral_spelled top left s (λ i. y (suc i))))

long_after : (left byte v n : ℕ) → 1 ≤ v → length (spell left v) ≡ n → length (spell (suc left) (byte % 128 + 128 * v)) ≡ n + 1
unfolding spell
long_after left byte v n one h =
    rw (le-ltb (byte % 128 + 128 * v) 128 (omega arith)) (omega (arith, h, ap (λ (w : ℕ). length (spell left w)) rest))
  where
    rest : (byte % 128 + 128 * v) / 128 ≡ v
    rest = omega arith

numeral_long : (top left : ℕ) (s : List ℕ) → OfValue (λ v n. length (spell left v) ≡ n) (numeral top left s)
unfolding numeral spell
numeral_long top zero [] = tt
numeral_long top zero (byte ∷ s) =
    holds_cond (λ v n. length (spell zero v) ≡ n) (leb byte top) (Value byte 1) (Fault (number_of Form)) (λ e. refl) (λ e. tt)
numeral_long top (suc left) [] = tt
numeral_long top (suc left) (byte ∷ s) =
    holds_cond (λ v n. length (spell (suc left) v) ≡ n) (ltb byte 128) (Value byte 1) (after byte (numeral top left s))
    (λ e. ap length (spell_low (suc left) byte (ltb-true byte 128 e)))
    (λ e. holds_after (λ v n. length (spell left v) ≡ n) (λ v n. length (spell (suc left) v) ≡ n) byte (numeral top left s) (λ v n one h. long_after left byte v n one h) (numeral_long top left s))

-- a number that was read is as long as its spelling, whatever stands there
pub number_long : (s : List ℕ) (at v n : ℕ) → number_at s at ≡ Value v n → length (spelling v) ≡ n
number_long s at v n e = subst (OfValue (λ w m. length (spelling w) ≡ m)) e (numeral_long top_byte bytes_before (drop at s))

-- ---- values one after the other

-- from a place to an end stand the spellings of values
abbrev pub Spells : List ℕ → ℕ → ℕ → List ℕ → Type 0
Spells s at end vs = (at + length (spellings vs) ≡ end) × (drop at s ≡ spellings vs ++ drop end s)

bytes_drop : (s : List ℕ) (at : ℕ) → Bytes s → Bytes (drop at s)
bytes_drop s at y i = rw (get_or-drop at s i 0) (y (at + i))

pub spells_none : (s : List ℕ) (at : ℕ) → Spells s at at []
spells_none s at = (add-zero at, refl)

module _ (s : List ℕ) (y : Bytes s) (at : ℕ) where
  -- the bytes of an accepted number are its spelling
  pub number_spelled : (v n : ℕ) → number_at s at ≡ Value v n → (take n (drop at s) ≡ spelling v) × (n ≤ length s - at)
  number_spelled v n e = (
    subst (OfValue (SpelledAs bytes_before (drop at s))) e (numeral_spelled top_byte bytes_before (drop at s) (bytes_drop s at y)),
    (subst (OfValue (NumberIn s at)) e (number_in s at)).3,
  )

  pub spells_more : (v n end : ℕ) (vs : List ℕ) → number_at s at ≡ Value v n → Spells s (at + n) end vs → Spells s at end (v ∷ vs)
  spells_more v n end vs e h = (
    omega (arith, number_long s at v n e, h.0, length_cons v vs),
    sym (take-append-drop n (drop at s)) ∙ ap₂ (λ (k m : List ℕ). k ++ m) (number_spelled v n e).0 (drop-drop n at s ∙ h.1) ∙ sym (append_assoc (spelling v) (spellings vs) (drop end s)),
  )

-- ---- headers and records

module _ {P L A : Type 0} where
  -- it holds of what was read and the position after it, if that is the answer
  abbrev pub Gives : (A → P → Type 0) → Found P L A → Type 0
  Gives Q (Given x end) = Q x end
  Gives Q (Refused number place) = Unit

  pub gives_cond : (Q : A → P → Type 0) (t : Bool) (x y : Found P L A) → (t ≡ true → Gives Q x) → (t ≡ false → Gives Q y) → Gives Q (cond t x y)
  gives_cond Q true x y f g = f refl
  gives_cond Q false x y f g = g refl

module _ {P L A B : Type 0} where
  pub gives_then : (Q : A → P → Type 0) (R : B → P → Type 0) (r : Found P L A) (next : A → P → Found P L B)
      → Gives Q r → ((x : A) (end : P) → Q x end → Gives R (next x end)) → Gives R (and_then r next)
  gives_then Q R (Given x end) next h f = f x end h
  gives_then Q R (Refused number place) next h f = tt

module _ {A : Type 0} where
  pub gives_field : (P : A → ℕ → Type 0) (range : Range) (s : List ℕ) (at : ℕ) (next : ℕ → ℕ → Reading A)
      → ((v n : ℕ) → number_at s at ≡ Value v n → in_range range v ≡ true → Gives P (next v (at + n))) → Gives P (field range s at next)
  gives_field P range s at next f = go (number_at s at) refl
    where
      go : (r : Numeral) → number_at s at ≡ r → Gives P (tested range at r next)
      go (Value v n) e = gives_cond P (in_range range v) (next v (at + n)) _ (f v n e) (λ t. tt)
      go (Fault number) e = tt

-- what holds of a read wherever its priority stands
pub gives_read : (P : Read → ℕ → Type 0) (s : List ℕ) (at : ℕ) → Gives (λ r end. P r.read end) (placed_at s at) → Gives P (record_at s at)
unfolding record_at
gives_read P s at h = gives_then (λ (r : Placed) end. P r.read end) P (placed_at s at) _ h (λ r end p. p)

-- the fields are in their ranges, the size no larger than the largest
abbrev pub HeaderOk : (largest : ℕ) → Header → Type 0
HeaderOk largest h = (in_range edition h.edition ≡ true) × (in_range (size_up_to largest) h.size ≡ true)

pub header_spelled : (largest : ℕ) (s : List ℕ) → Bytes s → (at : ℕ) → Gives (λ h end. Spells s at end (header_values h) × HeaderOk largest h) (header_at largest s at)
unfolding header_at
header_spelled largest s y at =
    gives_field _ edition s at _
    (λ e n₁ e₁ r₁. gives_field _ (size_up_to largest) s (at + n₁) _
    (λ n n₂ e₂ r₂. (spells_more s y at e n₁ (at + n₁ + n₂) (n ∷ []) e₁ (spells_more s y (at + n₁) n n₂ (at + n₁ + n₂) [] e₂ (spells_none s (at + n₁ + n₂))), (r₁, r₂))))

pub record_spelled : (s : List ℕ) → Bytes s → (at : ℕ) → Gives (λ r end. Spells s at end (read_values r) × ReadOk r) (record_at s at)
unfolding placed_at placed_in
record_spelled s y at =
    gives_read _ s at
    (gives_field _ volume s at _
    (λ v n₁ e₁ r₁. gives_field _ block s (at + n₁) _
    (λ b n₂ e₂ r₂. gives_field _ priority s (at + n₁ + n₂) _
    (λ p n₃ e₃ r₃. (
      spells_more s y at v n₁ (at + n₁ + n₂ + n₃) (b ∷ p ∷ []) e₁ (spells_more s y (at + n₁) b n₂ (at + n₁ + n₂ + n₃) (p ∷ []) e₂ (spells_more s y (at + n₁ + n₂) p n₃ (at + n₁ + n₂ + n₃) [] e₃ (spells_none s (at + n₁ + n₂ + n₃)))),
      (r₁, r₂, r₃),
    )))))
