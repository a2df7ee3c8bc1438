-- The six cases of the outcome, and a read from the place where its block is.
use mathlib.Core.Path.{◌≡◌, refl, ap, ◌∙◌}
use mathlib.Core.Logic.{◌≢◌}
use mathlib.Core.List.{List, [], ◌∷◌}
use Prim.Native.Nat.{ℕ, zero, suc, ◌≤◌, ◌<◌}
use native.Mathlib.Omega.{arith}
use lib.ListN.{length}
use Rattle.card.specs.Rule.{place, one_lower, outcome, moved_from, after_read}
use Rattle.card.proofs.Tests.{by_lt, by_eq, tests}

-- what holds of a number, for each of the six cases of the table
pub by_outcome : (P : ℕ → Type 0) (m j p : ℕ)
    → (1 ≤ j → p < j → P 0) → (1 ≤ j → p ≡ j → P 1) → (1 ≤ j → j < p → p ≤ m → P 2) → (1 ≤ j → j < p → m < p → P 3) → (j ≡ 0 → p ≤ m → P 4) → (j ≡ 0 → m < p → P 5)
    → P (outcome m j p)
unfolding outcome
by_outcome P m j p up same down hitBypass insert missBypass =
    by_eq j 0
    (λ e. by_lt m p (λ h. simp tests (missBypass e h)) (λ h. simp tests (insert e h)))
    (λ e. by_lt p j
    (λ h. simp tests (up (omega arith) h))
    (λ h. by_eq p j
    (λ q. simp tests (same (omega arith) q))
    (λ q. by_lt m p (λ k. simp tests (hitBypass (omega arith) (omega arith) k)) (λ k. simp tests (down (omega arith) (omega arith) k)))))

-- a number that is none of the six
pub past_six : (o : ℕ) → o ≢ 0 → o ≢ 1 → o ≢ 2 → o ≢ 3 → o ≢ 4 → o ≢ 5 → 6 ≤ o
past_six o n₀ n₁ n₂ n₃ n₄ n₅ = omega arith

-- a block's place is in the card
pub place_in : (c : List ℕ) (x : ℕ) → place c x ≤ length c
place_in [] x = omega arith
place_in (y ∷ ys) x = by_eq y x (λ e. simp tests (omega arith)) (λ e. simp tests (lower_in (place ys x) (length ys) (place_in ys x)))
  where
    lower_in : (j n : ℕ) → j ≤ n → one_lower j ≤ suc n
    lower_in zero n h = omega arith
    lower_in (suc j) n h = omega arith

-- a read moves its block from where it is
pub moved_read : (c : List ℕ) (x j p : ℕ) → j ≡ place c x → moved_from c x j p ≡ after_read c x p
unfolding moved_from after_read
moved_read c x j p e =
    let h : place c x ≤ length c = place_in c x in
    ap (λ (k : ℕ). moved_from c x k p) e ∙ simp tests refl

-- a read whose block is not in a card and is put at no place of it leaves the card
pub read_past : (c : List ℕ) (x p : ℕ) → place c x ≡ 0 → length c < p → c ≡ after_read c x p
unfolding after_read outcome
read_past c x p none past = simp tests
