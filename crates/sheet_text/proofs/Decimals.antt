-- Laws of a number's decimal spelling: it is the one with the fewest digits, and it reads back.
use mathlib.Core.Path.{◌≡◌, refl, sym, ap, subst, ◌∙◌}
use mathlib.Core.List.{List, [], ◌∷◌, ◌++◌}
use Prim.Native.Nat.{ℕ, zero, suc, ◌+◌, ◌-◌, ◌*◌, ◌/◌, ◌%◌, ◌^◌, ◌≤◌, ◌<◌}
use native.Mathlib.Nat.{pow-suc}
use native.Mathlib.Omega.{arith}
use lib.ListN.{length, get_or, length-append, get_or-append}
use lib.Seq.{get_or-append_seam}
use borrow.Author.Tests.{lt-ltb, le-ltb}
use Rattle.card.proofs.Tests.{by_lt}
use Rattle.sheet_text.specs.Decimal.{digit, digits, decimal, value_after}

-- ---- one digit, or the digits of the tenth and one more

digits_low : (most n : ℕ) → n < 10 → digits most n ≡ digit n ∷ []
unfolding digits
digits_low zero n h = refl
digits_low (suc most) n h = rw (lt-ltb n 10 h)

digits_high : (most n : ℕ) → 10 ≤ n → digits (suc most) n ≡ digits most (n / 10) ++ (digit (n % 10) ∷ [])
unfolding digits
digits_high most n h = rw (le-ltb n 10 h)

-- more room than a number needs changes nothing
digits_enough : (m k n : ℕ) → n ≤ m → n ≤ k → digits m n ≡ digits k n
digits_enough zero k n f g = digits_low zero n (omega arith) ∙ sym (digits_low k n (omega arith))
digits_enough (suc m) zero n f g = digits_low (suc m) n (omega arith) ∙ sym (digits_low zero n (omega arith))
digits_enough (suc m) (suc k) n f g = by_lt n 10
    (λ h. digits_low (suc m) n h ∙ sym (digits_low (suc k) n h))
    (λ h. digits_high m n h ∙ ap (λ (l : List ℕ). l ++ (digit (n % 10) ∷ [])) (digits_enough m k (n / 10) (omega arith) (omega arith)) ∙ sym (digits_high k n h))

pub decimal_low : (n : ℕ) → n < 10 → decimal n ≡ digit n ∷ []
decimal_low n h = digits_low n n h

pub decimal_step : (n : ℕ) → 10 ≤ n → decimal n ≡ decimal (n / 10) ++ (digit (n % 10) ∷ [])
decimal_step zero h = absurd (omega arith)
decimal_step (suc m) h =
    digits_high m (suc m) h
    ∙ ap (λ (l : List ℕ). l ++ (digit (suc m % 10) ∷ [])) (digits_enough m (suc m / 10) (suc m / 10) (omega arith) (omega arith))

-- what holds of one digit, and with the tenth of a number of the number, holds of every number
decimal_induct : (P : ℕ → List ℕ → Type 0) → ((n : ℕ) → n < 10 → P n (digit n ∷ []))
    → ((n : ℕ) → 10 ≤ n → P (n / 10) (decimal (n / 10)) → P n (decimal (n / 10) ++ (digit (n % 10) ∷ [])))
    → (n : ℕ) → P n (decimal n)
decimal_induct P low high n = go n n (omega arith)
  where
    go : (most n : ℕ) → n ≤ most → P n (decimal n)
    go zero n h = subst (P n) (sym (decimal_low n (omega arith))) (low n (omega arith))
    go (suc most) n h = by_lt n 10
        (λ f. subst (P n) (sym (decimal_low n f)) (low n f))
        (λ f. subst (P n) (sym (decimal_step n f)) (high n f (go most (n / 10) (omega arith))))

-- ---- how many digits

-- one digit more, where there is room for one more
length_more : (n k : ℕ) (xs : List ℕ) → 10 ≤ n → ((j : ℕ) → n / 10 < 10 ^ suc j → length xs ≤ suc j) → n < 10 ^ suc k → length (xs ++ (digit (n % 10) ∷ [])) ≤ suc k
length_more n zero xs f ih h = absurd (omega arith)
length_more n (suc k) xs f ih h =
    let tenth : n / 10 < 10 ^ suc k = omega (arith, pow-suc 10 (suc k)) in
    omega (arith, length-append xs (digit (n % 10) ∷ []), ih k tenth)

decimal_length : (n k : ℕ) → n < 10 ^ suc k → length (decimal n) ≤ suc k
decimal_length = decimal_induct (λ n ds. (k : ℕ) → n < 10 ^ suc k → length ds ≤ suc k)
    (λ n f k h. omega arith)
    (λ n f ih k h. length_more n k (decimal (n / 10)) f ih h)

pub decimal_short : (n : ℕ) → n < 2 ^ 64 → length (decimal n) ≤ 20
decimal_short n h = decimal_length n 19 (omega arith)

-- with room for one digit more
pub decimal_shorter : (n : ℕ) → n < 10 ^ 19 → length (decimal n) ≤ 19
decimal_shorter n h = decimal_length n 18 h

pub decimal_some : (n : ℕ) → 1 ≤ length (decimal n)
decimal_some = decimal_induct (λ n ds. 1 ≤ length ds) (λ n h. omega arith) (λ n h ih. omega (arith, length-append (decimal (n / 10)) (digit (n % 10) ∷ [])))

-- ---- the spelling reads back

value_last : (v : ℕ) (xs : List ℕ) (d : ℕ) → value_after v (xs ++ (d ∷ [])) ≡ 10 * value_after v xs + (d - 48)
value_last v [] d = refl
value_last v (x ∷ xs) d = value_last (10 * v + (x - 48)) xs d

pub decimal_reads : (n : ℕ) → value_after 0 (decimal n) ≡ n
decimal_reads = decimal_induct (λ n ds. value_after 0 ds ≡ n)
    (λ n h. omega arith)
    (λ n h ih. value_last 0 (decimal (n / 10)) (digit (n % 10)) ∙ omega (arith, ih))

-- ---- each byte

pub decimal_first : (n : ℕ) → 0 < n → 48 < get_or (decimal n) 0 0
decimal_first = decimal_induct (λ n ds. 0 < n → 48 < get_or ds 0 0)
    (λ n h f. omega arith)
    (λ n h ih f. rw (get_or-append (decimal (n / 10)) (digit (n % 10) ∷ []) 0 0 (decimal_some (n / 10))) (ih (omega arith)))

pub decimal_digits : (n i : ℕ) → i < length (decimal n) → (48 ≤ get_or (decimal n) i 0) × (get_or (decimal n) i 0 ≤ 57)
decimal_digits = decimal_induct (λ n ds. (i : ℕ) → i < length ds → (48 ≤ get_or ds i 0) × (get_or ds i 0 ≤ 57))
    (λ n h i f. rw (the_first i f) (omega arith))
    (λ n h ih i f. by_lt i (length (decimal (n / 10)))
    (λ g. rw (get_or-append (decimal (n / 10)) (digit (n % 10) ∷ []) 0 i g) (ih i g))
    (λ g. rw (the_last (digit (n % 10)) i (decimal (n / 10)) g f, get_or-append_seam (decimal (n / 10)) (digit (n % 10)) [] 0) (omega arith)))
  where
    the_first : (i : ℕ) → i < 1 → i ≡ 0
    the_first i f = omega arith

    the_last : (d i : ℕ) (xs : List ℕ) → length xs ≤ i → i < length (xs ++ (d ∷ [])) → i ≡ length xs
    the_last d i xs g f = omega (arith, length-append xs (d ∷ []))
