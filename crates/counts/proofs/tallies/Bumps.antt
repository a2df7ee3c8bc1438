-- One more in a tally: what that does to the area, and to the sums.
use mathlib.Core.Path.{◌≡◌, refl}
use mathlib.Core.List.{List}
use Prim.Native.Nat.{ℕ, zero, suc, ◌+◌, ◌-◌, ◌≤◌, ◌<◌}
use native.Mathlib.Omega.{arith}
use lib.Dec.{leb}
use lib.ListN.{length, get_or, length-set}
use lib.Seq.{get_or-set_same, get_or-set_other}
use Rattle.card.proofs.Tests.{by_lt, by_eq, tests, bit}
use Rattle.counts.specs.Columns.{columns, counts_length, cell_of}
use Rattle.counts.specs.Tallies.{up_to}
use Rattle.counts.specs.TallySteps.{bumped, GrownBy}

module _ (c : List ℕ) (n k s : ℕ) where
  pub length_bumped : length (bumped c n k s) ≡ length c
  unfolding bumped
  length_bumped = by_lt n s (λ h. simp tests) (λ h. simp (tests, length-set))

  -- the cell that is not the tally's keeps its value
  pub bumped_other : (x : ℕ) → (x ≡ cell_of (s - 1) k → ⊥) → get_or (bumped c n k s) x 0 ≡ get_or c x 0
  unfolding bumped
  bumped_other x d =
      by_lt n s (λ h. simp tests) (λ h. simp tests (get_or-set_other c (cell_of (s - 1) k) x (get_or c (cell_of (s - 1) k) 0 + 1) 0 d))

  pub bumped_past : n < s → bumped c n k s ≡ c
  unfolding bumped
  bumped_past h = simp tests

  module _ (long : counts_length n ≤ length c) (some : 1 ≤ s) (column : k < columns) where
    bumped_same : s ≤ n → get_or (bumped c n k s) (cell_of (s - 1) k) 0 ≡ get_or c (cell_of (s - 1) k) 0 + 1
    unfolding bumped
    bumped_same h = simp tests (get_or-set_same c (cell_of (s - 1) k) (get_or c (cell_of (s - 1) k) 0 + 1) 0 (omega arith))

    pub bumped_small : GrownBy 1 c (bumped c n k s)
    bumped_small x =
        by_eq x (cell_of (s - 1) k)
        (λ e. by_lt n s
        (λ h. rw bumped_past (omega arith))
        (λ h. rw e (omega (arith, bumped_same h))))
        (λ d. omega (arith, bumped_other x d))

    -- its sums count from the size on
    pub up_to_same : (m : ℕ) → m ≤ n → up_to (bumped c n k s) k m ≡ up_to c k m + bit (leb s m)
    up_to_same zero h = simp tests (omega arith)
    up_to_same (suc m) h =
        by_lt m s
        (λ l. let sofar = simp tests at (up_to_same m (omega arith)) in
        by_eq s (suc m)
        (λ e. let reached : s ≤ suc m = omega arith in
        let index : cell_of m k ≡ cell_of (s - 1) k = omega arith in
        simp tests (rw index (omega (arith, bumped_same (omega arith)))))
        (λ d. let later : suc m < s = omega arith in
        simp tests (omega (arith, bumped_other (cell_of m k) (λ e. d (omega arith))))))
        (λ l. let sofar = simp tests at (up_to_same m (omega arith)) in
        let reached : s ≤ suc m = omega arith in
        simp tests (omega (arith, bumped_other (cell_of m k) (λ e. omega arith))))

    -- and those of the other tallies stay
    pub up_to_other : (i : ℕ) → i < columns → (i ≡ k → ⊥) → (m : ℕ) → up_to (bumped c n k s) i m ≡ up_to c i m
    up_to_other i l d zero = refl
    up_to_other i l d (suc m) = omega (arith, up_to_other i l d m, bumped_other (cell_of m i) (λ e. d (omega arith)))
