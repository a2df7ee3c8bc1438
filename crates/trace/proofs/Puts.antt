-- Laws of elements that take the place of others in a list.
use mathlib.Core.Path.{◌≡◌, refl, sym, ap, ap₂, ◌∙◌}
use mathlib.Core.List.{List, [], ◌∷◌, ◌++◌, append-nil, append_assoc}
use Prim.Native.Nat.{ℕ, suc, ◌+◌, ◌-◌, ◌≤◌, ◌<◌}
use native.Mathlib.Nat.{add-zero, zero-add}
use native.Mathlib.Numerals.{add-one}
use native.Mathlib.Omega.{arith}
use lib.ListN.{length, take, drop, set, length-drop, length-append, drop_of_length-le, take-append-drop}
use lib.Seq.{paste, drop-drop, length-take-le, take-suc-set, drop-set-lt}
use borrow.Rule.Slice.PartMut.{put_mid}
use borrow.Author.Rules.{part_to_end}
use Rattle.std.proofs.lemmas.List.Edits.{paste_all, paste-paste}
use Rattle.trace.specs.Writing.{put}

module _ {A : Type 0} where
  pub put_none : (s : List A) (at : ℕ) → put s at [] ≡ s
  put_none s at = ap (λ (n : ℕ). take at s ++ drop n s) (add-zero at) ∙ take-append-drop at s

  -- one element, and then the others
  pub put_cons : (s : List A) (at : ℕ) (b : A) (xs : List A) → at < length s → put (set s at b) (at + 1) xs ≡ put s at (b ∷ xs)
  put_cons s at b xs h =
      ap₂ (λ (k m : List A). k ++ (xs ++ m)) front (drop-set-lt (at + 1 + length xs) s at b (omega arith))
      ∙ append_assoc (take at s) (b ∷ []) (xs ++ drop (at + 1 + length xs) s)
      ∙ ap (λ (n : ℕ). take at s ++ (b ∷ (xs ++ drop n s))) past
    where
      past : at + 1 + length xs ≡ at + suc (length xs)
      past = omega arith

      front : take (at + 1) (set s at b) ≡ take at s ++ (b ∷ [])
      front = ap (λ (n : ℕ). take n (set s at b)) (add-one at) ∙ take-suc-set s at b h

  pub put_one : (s : List A) (at : ℕ) (b : A) → at < length s → set s at b ≡ put s at (b ∷ [])
  put_one s at b h = sym (put_none (set s at b) (at + 1)) ∙ put_cons s at b [] h

  -- a second write where the first one ends
  pub put_put : (s : List A) (at : ℕ) (xs ys : List A) → at + length xs ≤ length s → put (put s at xs) (at + length xs) ys ≡ put s at (xs ++ ys)
  put_put s at xs ys h =
      ap (λ (l : List A). put l (at + length xs) ys) (sym (paste_all s at xs (length xs) refl))
      ∙ sym (paste_all (paste s at xs (length xs)) (at + length xs) ys (length ys) refl)
      ∙ paste-paste s at xs ys (length xs) (length ys) refl refl (omega arith)
      ∙ rw (← length-append xs ys) (paste_all s at (xs ++ ys) (length (xs ++ ys)) refl)

  pub put_length : (s : List A) (at : ℕ) (xs : List A) → at + length xs ≤ length s → length (put s at xs) ≡ length s
  put_length s at xs h =
      simp (length-append, length-drop) (omega (arith, length-take-le at s (omega arith)))

-- a part that was lent to the end is back, with a write at its front
pub put_part : (s : List ℕ) (at : ℕ) (xs last : List ℕ) → last ≡ put (take (length s - at) (drop at s)) 0 xs → put_mid at (length s - at) s last ≡ put s at xs
put_part s at xs last e =
    ap₂ (λ (k m : List ℕ). take at s ++ (k ++ m)) (e ∙ ap (λ (k : List ℕ). put k 0 xs) (part_to_end s at)) (drop_of_length-le (drop at s) {i = length s - at} (omega (arith, length-drop at s)))
    ∙ ap (λ (k : List ℕ). take at s ++ k) (append-nil (put (drop at s) 0 xs))
    ∙ ap (λ (k : List ℕ). take at s ++ (xs ++ k)) (ap (λ (n : ℕ). drop n (drop at s)) (zero-add (length xs)) ∙ drop-drop (length xs) at s)
