-- Laws of the number that stands at a place of a list of bytes, over both limits of the format.
use mathlib.Core.Path.{◌≡◌, refl, ap, ◌∙◌}
use mathlib.Core.List.{List, [], ◌∷◌}
use mathlib.Core.Bool.{Bool, true, false, cond}
use Prim.Native.Nat.{ℕ, zero, suc, ◌+◌, ◌*◌, ◌%◌, ◌-◌, ◌^◌, ◌≤◌, ◌<◌}
use native.Mathlib.Numerals.{add-one, sub-one}
use native.Mathlib.Omega.{arith}
use lib.ListN.{length, get_or, drop, drop_of_length-le}
use lib.Seq.{drop-cons}
use lib.Dec.{ltb, leb}
use borrow.Author.Tests.{leb-true, ltb-true}
use Rattle.std.proofs.lemmas.Bool.Decides.{nat_tests}
use Rattle.terms.specs.declared.Refusal.TheVariants.{Cut, Form}
use Rattle.terms.specs.Refusals.{number_of}
use Rattle.trace.specs.Number.{Numeral, Value, Fault, after, numeral, top_byte, bytes_before}
use Rattle.trace.specs.Bounds.{limit, Small}

-- ---- one byte of a number

numeral_nil : (top left : ℕ) → numeral top left [] ≡ Fault (number_of Cut)
unfolding numeral
numeral_nil top zero = refl
numeral_nil top (suc left) = refl

pub numeral_cut : (top left : ℕ) (s : List ℕ) (i : ℕ) → length s ≤ i → numeral top left (drop i s) ≡ Fault (number_of Cut)
numeral_cut top left s i h = ap (numeral top left) (drop_of_length-le s h) ∙ numeral_nil top left

-- the last byte that may stand there
pub numeral_last : (top left : ℕ) (s : List ℕ) (i : ℕ) → left ≡ 0 → i < length s
    → numeral top left (drop i s) ≡ cond (leb (get_or s i 0) top) (Value (get_or s i 0) 1) (Fault (number_of Form))
unfolding numeral
numeral_last top left s i g h = rw g (ap (numeral top 0) (drop-cons s i 0 h))

-- a byte after which another may stand
pub numeral_more : (top left : ℕ) (s : List ℕ) (i : ℕ) → 1 ≤ left → i < length s
    → numeral top left (drop i s)
    ≡ cond (ltb (get_or s i 0) 128) (Value (get_or s i 0) 1) (after (get_or s i 0) (numeral top (left - 1) (drop (i + 1) s)))
unfolding numeral
numeral_more top zero s i g h = absurd (omega arith)
numeral_more top (suc left) s i g h = rw (add-one, sub-one) (ap (numeral top (suc left)) (drop-cons s i 0 h))

-- what follows a byte is not 0
pub after_value : (byte v n : ℕ) → (v ≡ 0 → ⊥) → after byte (Value v n) ≡ Value (byte % 128 + 128 * v) (n + 1)
after_value byte zero n h = absurd (h refl)
after_value byte (suc v) n h = refl

-- ---- what holds of each number that is read

-- it holds of a value and its length, if these are what was read
abbrev pub OfValue : (ℕ → ℕ → Type 0) → Numeral → Type 0
OfValue P (Value v n) = P v n
OfValue P (Fault number) = Unit

pub holds_cond : (P : ℕ → ℕ → Type 0) (t : Bool) (x y : Numeral) → (t ≡ true → OfValue P x) → (t ≡ false → OfValue P y) → OfValue P (cond t x y)
holds_cond P true x y f g = f refl
holds_cond P false x y f g = g refl

pub holds_after : (P Q : ℕ → ℕ → Type 0) (byte : ℕ) (r : Numeral)
    → ((v n : ℕ) → 1 ≤ v → P v n → Q (byte % 128 + 128 * v) (n + 1)) → OfValue P r → OfValue Q (after byte r)
holds_after P Q byte (Value zero n) f h = tt
holds_after P Q byte (Value (suc v) n) f h = f (suc v) n (omega arith) h
holds_after P Q byte (Fault number) f h = tt

-- ---- bounds

pub limit_pos : (top left : ℕ) → 1 ≤ limit top left
limit_pos top zero = omega arith
limit_pos top (suc left) = let ih = limit_pos top left in omega arith

pub limit_mono : (top left more : ℕ) → left ≤ more → limit top left ≤ limit top more
limit_mono top zero zero h = omega arith
limit_mono top zero (suc more) h = let ih = limit_mono top zero more (omega arith) in omega arith
limit_mono top (suc left) zero h = omega arith
limit_mono top (suc left) (suc more) h = let ih = limit_mono top left more (omega arith) in omega arith

-- a number is below the limit, has a byte, no more bytes than may be, and ends within the bytes
abbrev pub Bounded : (limited most room : ℕ) → ℕ → ℕ → Type 0
Bounded limited most room v n = (v < limited) × (1 ≤ n) × (n ≤ most) × (n ≤ room)

pub numeral_bounded : (top left : ℕ) (s : List ℕ) → OfValue (Bounded (limit top left) (suc left) (length s)) (numeral top left s)
unfolding numeral
numeral_bounded top zero [] = tt
numeral_bounded top zero (byte ∷ s) =
    holds_cond (Bounded (limit top 0) 1 (suc (length s))) (leb byte top) (Value byte 1) (Fault (number_of Form))
    (λ e. omega (arith, leb-true byte top e))
    (λ e. tt)
numeral_bounded top (suc left) [] = tt
numeral_bounded top (suc left) (byte ∷ s) =
    holds_cond (Bounded (limit top (suc left)) (suc (suc left)) (suc (length s))) (ltb byte 128) (Value byte 1) (after byte (numeral top left s))
    (λ e. omega (arith, ltb-true byte 128 e, limit_pos top left))
    (λ e. holds_after (Bounded (limit top left) (suc left) (length s)) (Bounded (limit top (suc left)) (suc (suc left)) (suc (length s))) byte (numeral top left s) (λ v n one h. omega arith) (numeral_bounded top left s))

small_of : (limited most room : ℕ) (r : Numeral) → limited ≤ 2 ^ 56 → most < 2 ^ 32 → OfValue (Bounded limited most room) r → Small r
small_of limited most room (Value v n) p q h = omega arith
small_of limited most room (Fault number) p q h = tt

-- a number of the format has room for one byte more
pub numeral_small : (left : ℕ) (s : List ℕ) → left ≤ bytes_before → Small (numeral top_byte left s)
numeral_small left s h =
    small_of (limit top_byte left) (suc left) (length s) (numeral top_byte left s) (omega (arith, limit_mono top_byte left bytes_before h)) (omega arith) (numeral_bounded top_byte left s)

-- what the reader of numbers stands on
pub ruleset number_laws = (nat_tests, numeral_cut, numeral_last, numeral_more, numeral_small)
