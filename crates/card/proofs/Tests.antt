-- Tests as numbers, and cases on an order.
use mathlib.Core.Path.{◌≡◌, refl}
use mathlib.Core.Bool.{Bool, true, false, ◌&&◌, cond}
use mathlib.Core.Logic.{◌≢◌}
use Prim.Native.Nat.{ℕ, suc, ◌-◌, ◌≤◌, ◌<◌, min}
use native.Mathlib.Omega.{arith}
use lib.Dec.{ltb, leb, eqb}
use borrow.Author.Tests.{ltb-true, ltb-false, eqb-true, eqb-false, lt-ltb, le-ltb, le-leb, lt-leb, eq-eqb, ne_eqb}

abbrev pub bit : Bool → ℕ
bit true = 1
bit false = 0

pub by_lt {ℓ} : {P : Type ℓ} (a b : ℕ) → (a < b → P) → (b ≤ a → P) → P
by_lt {P} a b f g = go (ltb a b) refl
  where
    go : (t : Bool) → ltb a b ≡ t → P
    go true e = f (ltb-true a b e)
    go false e = g (ltb-false a b e)

pub by_eq {ℓ} : {P : Type ℓ} (a b : ℕ) → (a ≡ b → P) → ((a ≡ b → ⊥) → P) → P
by_eq {P} a b f g = go (eqb a b) refl
  where
    go : (t : Bool) → eqb a b ≡ t → P
    go true e = f (eqb-true a b e)
    go false e = g (eqb-false a b e)

-- facts to tests
pub ruleset tests = (lt-ltb, le-ltb, le-leb, lt-leb, eq-eqb, ne_eqb)

-- a test on an order as a number that omega reads
pub bit_le : (a b : ℕ) → bit (leb a b) ≡ min 1 (suc b - a)
bit_le a b = by_lt b a (λ h. simp tests (omega arith)) (λ h. simp tests (omega arith))

-- 1 for a number that is not 0: a block that is there, a place that is full
abbrev pub here : ℕ → ℕ
here j = cond (eqb j 0) 0 1

pub here_one : (j : ℕ) → here j ≤ 1
here_one j = by_eq j 0 (λ e. simp tests (omega arith)) (λ e. simp tests (omega arith))

pub here_some : (j : ℕ) → 0 < here j → 0 < j
here_some j h = by_eq j 0 (λ e. absurd (let g = simp tests at h in omega arith)) (λ e. omega arith)

pub some_here : (j : ℕ) → 0 < j → here j ≡ 1
some_here j h = let e : j ≢ 0 = omega arith in simp tests

-- a conjunction from its two parts
pub both_and : (s t : Bool) → s ≡ true → t ≡ true → (s && t) ≡ true
both_and s t e f = rw (e, f)
