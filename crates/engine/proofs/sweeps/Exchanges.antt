-- Sums over the places, and over where their blocks come from.
use mathlib.Core.Path.{◌≡◌, refl, ap}
use mathlib.Core.Logic.{◌⊎◌, ◌≢◌, inl, inr, ⊎_elim}
use mathlib.Core.Bool.{cond}
use Prim.Native.Nat.{ℕ, zero, suc, ◌+◌, ◌-◌, ◌≤◌, ◌<◌}
use native.Mathlib.Omega.{arith}
use native.Mathlib.Numerals.{add-one}
use lib.Dec.{eqb}
use Rattle.card.proofs.Tests.{by_lt, by_eq, tests}
use Rattle.engine.specs.Moves.{before_put_in, before_taken_out, source_of}
use Rattle.engine.specs.Totals.{sum_to, most_to}
use Rattle.engine.specs.Renewals.{moved_of}
use Rattle.engine.specs.Sweeps.{left_of}

module _ (f g : ℕ → ℕ) where
  pub sum_same : (n : ℕ) → ((k : ℕ) → 1 ≤ k → k ≤ n → f k ≡ g k) → sum_to n f ≡ sum_to n g
  sum_same zero h = refl
  sum_same (suc n) h = omega (arith, sum_same n (λ k a b. h k a (omega arith)), h (suc n) (omega arith) (omega arith))

  pub most_same : (n : ℕ) → ((k : ℕ) → 1 ≤ k → k ≤ n → f k ≡ g k) → most_to n f ≡ most_to n g
  most_same zero h = refl
  most_same (suc n) h = omega (arith, most_same n (λ k a b. h k a (omega arith)), h (suc n) (omega arith) (omega arith))

-- one place less
pub sum_last : (f : ℕ → ℕ) (m : ℕ) → 0 < m → sum_to m f ≡ sum_to (m - 1) f + f m
sum_last f zero h = absurd (omega arith)
sum_last f (suc m) h = let e : suc m - 1 ≡ m = omega arith in rw e

-- the largest is none of less, and no bound
pub most_over : (f : ℕ → ℕ) (n k : ℕ) → 1 ≤ k → k ≤ n → f k ≤ most_to n f
most_over f zero k a b = absurd (omega arith)
most_over f (suc n) k a b = by_eq k (suc n) (λ e. omega (arith, ap f e)) (λ ne. omega (arith, most_over f n k a (omega (arith, ne))))

pub most_under : (f : ℕ → ℕ) (n B : ℕ) → ((k : ℕ) → 1 ≤ k → k ≤ n → f k ≤ B) → most_to n f ≤ B
most_under f zero B h = omega arith
most_under f (suc n) B h = omega (arith, most_under f n B (λ k a b. h k a (omega arith)), h (suc n) (omega arith) (omega arith))

-- ---- where blocks come from

module _ (g : ℕ → ℕ) where
  -- the place of the block read is passed over
  passed : (j y : ℕ) → ((j ≡ 0) ⊎ (y < j) → sum_to y (λ x. g (before_taken_out j x)) ≡ sum_to y g) × (0 < j → j ≤ y → sum_to y (λ x. g (before_taken_out j x)) + g j ≡ sum_to (suc y) g)
  passed j zero = ((λ h. refl), λ a b. absurd (omega arith))
  passed j (suc y) = (
    (λ h. let e : before_taken_out j (suc y) ≡ suc y = ⊎_elim (λ (z : j ≡ 0). simp tests) (λ (lt : suc y < j). by_eq j 0 (λ z. simp tests) (λ ne. simp tests)) h in
        omega (arith, (passed j y).0 (⊎_elim (λ z. inl z) (λ lt. inr (omega arith)) h), ap g e)),
    λ a b.
        let ne : j ≢ 0 = omega arith in
        let e : before_taken_out j (suc y) ≡ suc (suc y) = simp tests (omega arith) in
        by_lt y j
        (λ lt. let ej : j ≡ suc y = omega arith in omega (arith, (passed j y).0 (inr lt), ap g e, ap g ej))
        (λ ge. omega (arith, (passed j y).1 a ge, ap g e)),
  )

  -- and so is the place where it is put in
  skipped : (p m : ℕ) → 0 < p → (m < p → sum_to m (λ k. cond (eqb k p) 0 (g (before_put_in p k))) ≡ sum_to m g) × (p ≤ m → sum_to m (λ k. cond (eqb k p) 0 (g (before_put_in p k))) ≡ sum_to (m - 1) g)
  skipped p zero pos = ((λ h. refl), λ h. absurd (omega arith))
  skipped p (suc m) pos = (
    (λ h.
        let ne : suc m ≢ p = omega arith in
        let le : suc m ≤ p = omega arith in
        let e : cond (eqb (suc m) p) 0 (g (before_put_in p (suc m))) ≡ g (suc m) = simp tests in
        omega (arith, (skipped p m pos).0 (omega arith), e)),
    λ h.
        let s : suc m - 1 ≡ m = omega arith in
        by_eq (suc m) p
        (λ ep. let e : cond (eqb (suc m) p) 0 (g (before_put_in p (suc m))) ≡ 0 = simp tests in
        omega (arith, (skipped p m pos).0 (omega arith), e, ap (λ (z : ℕ). sum_to z g) s))
        (λ ne. let lt : p < suc m = omega (arith, ne) in
        let e : cond (eqb (suc m) p) 0 (g (before_put_in p (suc m))) ≡ g (suc m - 1) = simp tests in
        omega (arith, (skipped p m pos).1 (omega arith), e, ap g s, sum_last g m (omega arith), ap (λ (z : ℕ). sum_to z g) s)),
  )

-- what is at the places is what leaves and what moves
pub exchange : (count : ℕ → ℕ) (read n p j : ℕ) → 0 < p → 0 < n → j ≤ n → count (n + 1) ≡ 0 → (0 < j → count j ≡ read) → sum_to n count ≡ left_of count read n p j + sum_to n (moved_of count p j)
unfolding left_of moved_of source_of
exchange count read n p j pos some low past at_j =
    let b : ℕ → ℕ = λ x. count (before_taken_out j x) in
    let next : sum_to (suc n) count ≡ sum_to n count = omega (arith, past, ap count (add-one n)) in
    by_lt n p
    (λ h. by_eq j 0
    (λ z. simp tests (omega (arith, (skipped b p n pos).0 h, (passed count j n).0 (inl z))))
    (λ ne. simp tests (omega (arith, (skipped b p n pos).0 h, (passed count j n).1 (omega (arith, ne)) low, next, at_j (omega (arith, ne))))))
    (λ h. by_eq j 0
    (λ z. simp tests (omega (arith, (skipped b p n pos).1 h, (passed count j (n - 1)).0 (inl z), sum_last count n some)))
    (λ ne. by_lt (n - 1) j
    (λ lt. let e : j ≡ n = omega arith in simp tests (omega (arith, (skipped b p n pos).1 h, (passed count j (n - 1)).0 (inr lt), sum_last count n some, ap count e, at_j (omega (arith, ne)))))
    (λ ge. let e : suc (n - 1) ≡ n = omega arith in simp tests (omega (arith, (skipped b p n pos).1 h, (passed count j (n - 1)).1 (omega (arith, ne)) ge, ap (λ (z : ℕ). sum_to z count) e, at_j (omega (arith, ne)))))))
