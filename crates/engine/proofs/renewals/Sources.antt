-- Where what comes to a place of the largest card came from.
use mathlib.Core.Path.{◌≡◌, ◌∙◌}
use mathlib.Core.Logic.{◌≢◌, inl, inr}
use Prim.Native.Nat.{ℕ, ◌-◌, ◌≤◌, ◌<◌}
use native.Mathlib.Omega.{arith}
use Rattle.card.specs.Moves.{taken_out, put_in}
use Rattle.card.proofs.Tests.{by_lt, by_eq, tests}
use Rattle.engine.specs.Moves.{source_of}
use Rattle.engine.proofs.rows.RowLaws.{source_above, source_below, source_down, source_up}

module _ (p j n : ℕ) (one : 1 ≤ p) (in_card : j ≤ n) where
  -- a block that comes to place k comes from the source of k
  pub source_to : (l k : ℕ) → 1 ≤ l → l ≤ n → l ≢ j → 1 ≤ k → put_in p n (taken_out j l) ≡ k → (k ≢ p) × (l ≡ source_of p j k)
  source_to l k a b d e h =
      by_eq j 0
      (λ f. by_lt n p
      (λ g. let i = simp tests at h in ((λ q. omega arith), omega (arith, source_above p j k (omega arith) (inl f))))
      (λ g. by_lt l p
      (λ t. let i = simp tests at h in ((λ q. omega arith), omega (arith, source_above p j k (omega arith) (inl f))))
      (λ t. by_lt l n
      (λ u. let i = simp tests at h in ((λ q. omega arith), omega (arith, source_down p j k (omega arith) (inl f))))
      (λ u. let i = simp tests at h in absurd (omega arith)))))
      (λ f. by_lt j l
      (λ c. by_lt n p
      (λ g. let i = simp tests at h in ((λ q. omega arith), omega (arith, source_up p j k (omega arith) (omega arith) (omega arith))))
      (λ g. by_lt (l - 1) p
      (λ t. let i = simp tests at h in ((λ q. omega arith), omega (arith, source_up p j k (omega arith) (omega arith) (omega arith))))
      (λ t. let u : l - 1 < n = omega arith in let i = simp tests at h in ((λ q. omega arith), omega (arith, source_below p j k (omega arith) (omega arith) (omega arith))))))
      (λ c. by_lt n p
      (λ g. let i = simp tests at h in ((λ q. omega arith), omega (arith, source_above p j k (omega arith) (inr (omega arith)))))
      (λ g. by_lt l p
      (λ t. let i = simp tests at h in ((λ q. omega arith), omega (arith, source_above p j k (omega arith) (inr (omega arith)))))
      (λ t. let u : l < n = omega arith in let i = simp tests at h in ((λ q. omega arith), omega (arith, source_down p j k (omega arith) (inr (omega arith))))))))

  -- and what stands at the source of k comes to k
  pub source_from : (s k : ℕ) → s ≡ source_of p j k → 1 ≤ k → k ≤ n → k ≢ p → 1 ≤ s → s ≤ n → (s ≢ j) × (put_in p n (taken_out j s) ≡ k)
  source_from s k w a b d e h =
      by_eq j 0
      (λ f. by_lt p k
      (λ g. let i = w ∙ source_down p j k g (inl f) in
      let x : p ≤ n = omega arith in let y : p ≤ s = omega arith in let z : s < n = omega arith in ((λ q. omega arith), simp tests (omega arith)))
      (λ g. let i = w ∙ source_above p j k g (inl f) in
      ((λ q. omega arith), by_lt n p (λ x. simp tests (omega arith)) (λ x. let y : s < p = omega arith in simp tests (omega arith)))))
      (λ f. by_lt p k
      (λ g. by_lt (k - 1) j
      (λ c. let i = w ∙ source_down p j k g (inr (omega arith)) in
      let x : p ≤ n = omega arith in let y : p ≤ s = omega arith in let z : s < n = omega arith in let v : s ≤ j = omega arith in ((λ q. omega arith), simp tests (omega arith)))
      (λ c. let i = w ∙ source_below p j k (omega arith) (omega arith) g in
      let x : p ≤ n = omega arith in let v : j < s = omega arith in let y : p ≤ s - 1 = omega arith in let z : s - 1 < n = omega arith in ((λ q. omega arith), simp tests (omega arith))))
      (λ g. by_lt k j
      (λ c. let i = w ∙ source_above p j k g (inr c) in let v : s ≤ j = omega arith in
      ((λ q. omega arith), by_lt n p (λ x. simp tests (omega arith)) (λ x. let y : s < p = omega arith in simp tests (omega arith))))
      (λ c. let i = w ∙ source_up p j k g (omega arith) c in let v : j < s = omega arith in
      ((λ q. omega arith), by_lt n p (λ x. simp tests (omega arith)) (λ x. let y : s - 1 < p = omega arith in simp tests (omega arith))))))
