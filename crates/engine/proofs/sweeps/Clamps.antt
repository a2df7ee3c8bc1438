-- Priorities past the last place n, at every place and size up to n: each does what n + 1 does, and nothing to a block that is not there.
use mathlib.Core.Path.{◌≡◌, sym, ap, ◌∙◌}
use Prim.Native.Nat.{ℕ, ◌+◌, ◌≤◌, ◌<◌, min}
use native.Mathlib.Omega.{arith}
use Rattle.card.proofs.Tests.{by_lt, tests}
use Rattle.card.specs.Falling.{Falling}
use Rattle.engine.specs.Moves.{other_after, source_of, new_of}
use Rattle.engine.proofs.lists.PairFacts.{falls}

module _ (J : ℕ → ℕ) (j : ℕ) (L : ℕ → ℕ → ℕ) (n k m : ℕ) (kn : k ≤ n) (mn : m ≤ n) where
  -- nothing is put in
  past_new : (p : ℕ) → n < p → new_of J p j L k m ≡ new_of J (n + 1) j L k m
  unfolding new_of other_after source_of
  past_new p h =
      let a : k ≡ p → ⊥ = λ e. omega arith in
      let b : k ≡ n + 1 → ⊥ = λ e. omega arith in
      let d : k ≤ p = omega arith in
      let e : k ≤ n + 1 = omega arith in
      let f : m < p = omega arith in
      let g : m < n + 1 = omega arith in
      simp tests

  pub clamped : (p c : ℕ) → c ≡ min p (n + 1) → new_of J c j L k m ≡ new_of J p j L k m
  clamped p c e = by_lt n p
      (λ h. let f : c ≡ n + 1 = omega arith in ap (λ (z : ℕ). new_of J z j L k m) f ∙ sym (past_new p h))
      (λ h. let f : c ≡ p = omega arith in ap (λ (z : ℕ). new_of J z j L k m) f)

  -- a block that is in no card and is put in none
  pub bypassed : (p : ℕ) → n < p → j ≡ 0 → j ≡ J n → Falling J → new_of J p j L k m ≡ L k m
  unfolding new_of other_after source_of
  bypassed p h none there fall =
      let absent : J m ≡ 0 = by_lt 0 (J m) (λ some. absurd (omega (arith, (falls J fall m n mn some).0))) (λ le. omega arith) in
      let a : k ≡ p → ⊥ = λ e. omega arith in
      let d : k ≤ p = omega arith in
      let f : m < p = omega arith in
      simp tests
