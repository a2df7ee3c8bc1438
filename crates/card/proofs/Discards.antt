-- A discard: the block leaves the card as by a hit bypass, or nothing happens.
use mathlib.Core.Path.{◌≡◌}
use mathlib.Core.Bool.{cond}
use mathlib.Core.Logic.{◌≢◌}
use mathlib.Core.List.{List}
use Prim.Native.Nat.{ℕ, ◌≤◌, ◌<◌}
use native.Mathlib.Omega.{arith}
use lib.Dec.{eqb}
use lib.ListN.{length}
use Rattle.card.specs.Rule.{place, raised, outcome, after_read}
use Rattle.card.proofs.Tests.{by_eq, tests}
use Rattle.card.proofs.OutcomeCases.{place_in}

-- the card after a discard of the block with key x
abbrev pub discarded : List ℕ → ℕ → List ℕ
discarded c x = cond (eqb (place c x) 0) c (raised c (place c x) (length c) 0)

-- the outcome of a priority past the size: a miss bypass or a hit bypass
pub outcome_past : (m j p : ℕ) → j ≤ m → m < p → outcome m j p ≡ cond (eqb j 0) 5 3
unfolding outcome
outcome_past m j p l h =
    by_eq j 0
    (λ e. simp tests)
    (λ e. let u : j ≤ p = omega arith in let v : p ≢ j = omega arith in simp tests)

-- a discard is a read with a priority past the size
pub discard_read : (c : List ℕ) (x p : ℕ) → length c < p → after_read c x p ≡ discarded c x
unfolding after_read
discard_read c x p h = rw (outcome_past (length c) (place c x) p (place_in c x) h) (by_eq (place c x) 0 (λ e. simp tests) (λ e. simp tests))
