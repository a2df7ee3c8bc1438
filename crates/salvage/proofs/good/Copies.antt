-- Bytes that are put one after the other: what is left to put, put, gives the whole.
use mathlib.Core.Path.{◌≡◌, refl, sym, ap, ◌∙◌}
use mathlib.Core.List.{List, ◌∷◌}
use Prim.Native.Nat.{ℕ, ◌+◌, ◌≤◌, ◌<◌}
use native.Mathlib.Nat.{add_assoc, add-zero}
use native.Mathlib.Numerals.{add-one}
use native.Mathlib.Omega.{arith}
use lib.ListN.{length, get_or, drop, set, length-set, drop_of_length-le}
use lib.Seq.{drop-cons}
use Rattle.trace.specs.Writing.{put}
use Rattle.trace.proofs.Puts.{put_none, put_cons}

-- the buffer at the start, the offset and the bytes; then the buffer and the index of what is left
abbrev pub Left : List ℕ → ℕ → List ℕ → List ℕ → ℕ → Type 0
Left s₀ at bytes s i = (i ≤ length bytes) × (length s ≡ length s₀) × (put s (at + i) (drop i bytes) ≡ put s₀ at bytes)

pub left_all : (s : List ℕ) (at : ℕ) (bytes : List ℕ) → Left s at bytes s 0
left_all s at bytes = (omega arith, refl, ap (λ (n : ℕ). put s n bytes) (add-zero at))

module _ (s₀ : List ℕ) (at : ℕ) (bytes s : List ℕ) (i : ℕ) (left : Left s₀ at bytes s i) where
  pub left_none : length bytes ≤ i → s ≡ put s₀ at bytes
  left_none h = sym (put_none s (at + i)) ∙ ap (put s (at + i)) (sym (drop_of_length-le bytes h)) ∙ left.2

  pub left_turn : i < length bytes → at + length bytes ≤ length s₀ → Left s₀ at bytes (set s (at + i) (get_or bytes i 0)) (i + 1)
  left_turn h room = (
    omega arith,
    length-set s (at + i) (get_or bytes i 0) ∙ left.1,
    ap (λ (n : ℕ). put (set s (at + i) (get_or bytes i 0)) n (drop (i + 1) bytes)) (sym (add_assoc at i 1))
        ∙ put_cons s (at + i) (get_or bytes i 0) (drop (i + 1) bytes) (omega (arith, left.1))
        ∙ ap (put s (at + i)) next
        ∙ left.2,
  )
    where
      next : get_or bytes i 0 ∷ drop (i + 1) bytes ≡ drop i bytes
      next = ap (λ (n : ℕ). get_or bytes i 0 ∷ drop n bytes) (add-one i) ∙ sym (drop-cons bytes i 0 h)
