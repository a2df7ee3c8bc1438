-- Lists of stretches depend on the places alone.
use mathlib.Core.Path.{◌≡◌, refl, ap₂}
use mathlib.Core.Bool.{cond}
use mathlib.Core.List.{List, [], ◌∷◌, ◌++◌}
use Prim.Native.Nat.{ℕ, zero, suc, ◌+◌, ◌≤◌}
use native.Mathlib.Omega.{arith}
use lib.Dec.{eqb}
use Rattle.card.specs.Stretches.{starts, stretches}
use Rattle.engine.specs.Rows.{pairs}

module _ (f g : ℕ → ℕ) where
  pub pairs_same : (n : ℕ) → ((m : ℕ) → m ≤ n → f m ≡ g m) → pairs f n ≡ pairs g n
  unfolding pairs
  pairs_same zero h = refl
  pairs_same (suc n) h =
      let a = h n (omega arith) in
      let b = h (suc n) (omega arith) in
      ap₂ (λ (l m : List ℕ). l ++ m) (pairs_same n (λ m k. h m (omega arith)))
      (ap₂ (λ (x y : ℕ). cond (eqb (starts x y) 0) [] (suc n ∷ y ∷ [])) a b)

  pub stretches_same : (n : ℕ) → ((m : ℕ) → m ≤ n → f m ≡ g m) → stretches f n ≡ stretches g n
  stretches_same zero h = refl
  stretches_same (suc n) h =
      let a = h n (omega arith) in
      let b = h (suc n) (omega arith) in
      ap₂ (λ (s t : ℕ). s + t) (stretches_same n (λ m k. h m (omega arith))) (ap₂ starts a b)
