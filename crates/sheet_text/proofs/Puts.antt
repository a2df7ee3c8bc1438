-- Laws of bytes that are put into a text one after the other.
use mathlib.Core.Path.{◌≡◌, refl, sym, ap, ap₂, subst, ◌∙◌}
use mathlib.Core.List.{List, [], ◌∷◌, ◌++◌}
use Prim.Native.Nat.{ℕ, suc, ◌+◌, ◌/◌, ◌%◌, ◌≤◌, ◌<◌}
use native.Mathlib.Nat.{add-zero}
use native.Mathlib.Omega.{arith}
use lib.ListN.{length, get_or, take, set, length-append, length-set}
use lib.Seq.{take-nil, take_all}
use Rattle.std.proofs.lemmas.List.{take_more}
use Rattle.sheet_text.specs.declared.text.Text.{Text}
use Rattle.sheet_text.specs.Decimal.{digit, decimal}
use Rattle.sheet_text.specs.Sheet.{shown}
use Rattle.sheet_text.specs.Writing.{put_from, Wrote, Takes}
use Rattle.sheet_text.proofs.Decimals.{decimal_low, decimal_step}

-- ---- one write after the other

pub put_none : {text : List ℕ} {at : ℕ} → Wrote text text at at []
unfolding put_from
put_none {text} {at} = record { text = refl; place = omega arith }

pub put_one : {text : List ℕ} {at b : ℕ} → Wrote text (set text at b) at (at + 1) (b ∷ [])
unfolding put_from
put_one {text} {at} {b} = record { text = refl; place = omega arith }

put_both : (s : List ℕ) (at : ℕ) (xs ys : List ℕ) → put_from (put_from s at xs) (at + length xs) ys ≡ put_from s at (xs ++ ys)
unfolding put_from
put_both s at [] ys = ap (λ (n : ℕ). put_from s n ys) (add-zero at)
put_both s at (b ∷ xs) ys = ap (λ (n : ℕ). put_from (put_from (set s at b) (at + 1) xs) n ys) past ∙ put_both (set s at b) (at + 1) xs ys
  where
    past : at + suc (length xs) ≡ at + 1 + length xs
    past = omega arith

put_then : {a b c : List ℕ} {at mid end : ℕ} {xs ys : List ℕ} → Wrote a b at mid xs → Wrote b c mid end ys → Wrote a c at end (xs ++ ys)
put_then {a} {b} {c} {at} {mid} {end} {xs} {ys} v w = record {
  text = w.text ∙ ap₂ (λ (s : List ℕ) (n : ℕ). put_from s n ys) v.text v.place ∙ put_both a at xs ys;
  place = omega (arith, v.place, w.place, length-append xs ys);
}

-- it changes no length
length_put : (s : List ℕ) (at : ℕ) (xs : List ℕ) → length (put_from s at xs) ≡ length s
unfolding put_from
length_put s at [] = refl
length_put s at (b ∷ xs) = length_put (set s at b) (at + 1) xs ∙ length-set s at b

pub put_length : {a b : List ℕ} {at end : ℕ} {xs : List ℕ} → Wrote a b at end xs → length b ≡ length a
put_length {a} {b} {at} {end} {xs} w = ap length w.text ∙ length_put a at xs

-- the next of some words, and all of them
module _ {a b : List ℕ} {at mid : ℕ} (words : List ℕ) (i : ℕ) (w : Wrote a b at mid (take i words)) where
  pub next_word : {c : List ℕ} {end : ℕ} → i < length words → c ≡ set b mid (get_or words i 0) → end ≡ mid + 1 → Wrote a c at end (take (i + 1) words)
  next_word {c} {end} h e f = subst (Wrote a c at end) (sym (take_more words i 0 h)) (put_then w (rw (e, f) put_one))

  pub all_words : length words ≤ i → Wrote a b at mid words
  all_words h = subst (Wrote a b at mid) (take_all i words h) w

-- ---- what a write from the front leaves

-- nothing fits
put_nil : (at : ℕ) (xs : List ℕ) → put_from [] at xs ≡ []
unfolding put_from
put_nil at [] = refl
put_nil at (b ∷ xs) = put_nil (at + 1) xs

-- a write after the first byte
put_later : (x : ℕ) (s : List ℕ) (at : ℕ) (xs : List ℕ) → put_from (x ∷ s) (suc at) xs ≡ x ∷ put_from s at xs
unfolding put_from
put_later x s at [] = refl
put_later x s at (b ∷ xs) = ap (λ (n : ℕ). put_from (x ∷ set s at b) n xs) past ∙ put_later x (set s at b) (at + 1) xs
  where
    past : suc at + 1 ≡ suc (at + 1)
    past = omega arith

put_front : (s xs : List ℕ) → put_from s 0 xs ≡ shown xs s
unfolding put_from
put_front s [] = sym (ap (λ (l : List ℕ). l ++ s) (take-nil (length s)))
put_front [] (b ∷ xs) = put_nil 1 xs
put_front (x ∷ s) (b ∷ xs) = put_later b s 0 xs ∙ ap (λ (l : List ℕ). b ∷ l) (put_front s xs)

pub put_shown : {text last : List ℕ} {end : ℕ} {bytes : List ℕ} → Wrote text last 0 end bytes → last ≡ shown bytes text
put_shown {text} {last} {end} {bytes} w = w.text ∙ put_front text bytes

-- ---- the same of a text

pub takes_none : {a : Text} → Takes a a []
takes_none = record { wrote = put_none; same = refl }

pub takes_then : {a b c : Text} {xs ys : List ℕ} → Takes a b xs → Takes b c ys → Takes a c (xs ++ ys)
takes_then v w = record { wrote = put_then v.wrote w.wrote; same = w.same ∙ v.same }

pub takes_next : {a b c : Text} (words : List ℕ) (i : ℕ) → Takes a b (take i words) → i < length words → Takes b c (get_or words i 0 ∷ []) → Takes a c (take (i + 1) words)
takes_next {a} {b} {c} words i v h w = subst (Takes a c) (sym (take_more words i 0 h)) (takes_then v w)

-- ---- a number, which is its tenth and one more digit

pub takes_digit : {a b : Text} (n : ℕ) → n < 10 → Takes a b (digit (n % 10) ∷ []) → Takes a b (decimal n)
takes_digit {a} {b} n h w = let same : n % 10 ≡ n = omega arith in subst (Takes a b) (ap (λ (d : ℕ). digit d ∷ []) same ∙ sym (decimal_low n h)) w

pub takes_digits : {a b c : Text} (n : ℕ) → 10 ≤ n → Takes a b (decimal (n / 10)) → Takes b c (digit (n % 10) ∷ []) → Takes a c (decimal n)
takes_digits {a} {b} {c} n h v w = subst (Takes a c) (sym (decimal_step n h)) (takes_then v w)
