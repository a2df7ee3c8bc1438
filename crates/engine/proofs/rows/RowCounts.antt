-- How many stretches a list has, and how many leave.
use mathlib.Core.Path.{◌≡◌, ap}
use mathlib.Core.Logic.{◌≢◌, ⊎_elim}
use Prim.Native.Nat.{ℕ, ◌/◌, ◌≤◌, ◌<◌}
use native.Mathlib.Omega.{arith}
use lib.ListN.{length, get_or, get_or-eq_default}
use Rattle.card.specs.Stretches.{stretches}
use Rattle.card.proofs.Tests.{by_lt, tests}
use Rattle.engine.specs.Moves.{Family}
use Rattle.engine.specs.Rows.{pairs}
use Rattle.engine.specs.Sweeps.{left_of}
use Rattle.card.proofs.StretchBounds.{falling_room}
use Rattle.engine.proofs.ListedStretches.{length_pairs}
use Rattle.engine.proofs.lists.PairFacts.{entries}
use Rattle.engine.proofs.rows.RowLaws.{pairs_none}

-- a block that is nowhere
pub stretches_nowhere : (R : ℕ → ℕ) (n : ℕ) → ((m : ℕ) → R m ≡ 0) → stretches R n ≡ 0
stretches_nowhere R n none = omega (arith, length_pairs R n, ap length (pairs_none R n none))

-- a list's stretches, by its entries
pub stretches_entries : (R : ℕ → ℕ) (n x : ℕ) → x ≡ length (pairs R n) → x / 2 ≡ stretches R n
stretches_entries R n x e = omega (arith, length_pairs R n)

-- what leaves
module _ (J : ℕ → ℕ) (L : ℕ → ℕ → ℕ) (n p j : ℕ) where
  abbrev Left : ℕ → Type 0
  Left x = x ≡ left_of (λ k. stretches (L k) n) (stretches J n) n p j

  pub left_read : (x : ℕ) → 0 < j → x ≡ length (pairs J n) → Left (x / 2)
  unfolding left_of
  left_read x pos e = let ne : j ≢ 0 = omega arith in simp tests (stretches_entries J n x e)

  pub left_bypass : j ≡ 0 → n < p → Left 0
  unfolding left_of
  left_bypass z h = simp tests

  pub left_none : j ≡ 0 → p ≤ n → get_or (pairs (L n) n) 0 0 ≡ 0 → Left 0
  unfolding left_of
  left_none z h e =
      let none : length (pairs (L n) n) ≡ 0 = by_lt 0 (length (pairs (L n) n)) (λ lt. absurd (omega (arith, entries (L n) n 0 lt))) (λ le. omega arith) in
      simp tests (omega (arith, length_pairs (L n) n))

  -- a block at the last place has one stretch
  pub left_last : j ≡ 0 → p ≤ n → 0 < n → Family L n → get_or (pairs (L n) n) 0 0 ≢ 0 → Left 1
  unfolding left_of
  left_last z h pos fam ne =
      let some : 0 < length (pairs (L n) n) = by_lt 0 (length (pairs (L n) n)) (λ lt. lt) (λ le. absurd (ne (get_or-eq_default (pairs (L n) n) 0 {n = 0} (omega arith)))) in
      let one : stretches (L n) n ≡ 1 = ⊎_elim
      (λ e. omega (arith, length_pairs (L n) n, falling_room (L n) (fam.good n) n (omega arith)))
      (λ none. absurd (omega (arith, ap length (pairs_none (L n) n none))))
      (fam.last n) in
      simp tests (omega arith)
