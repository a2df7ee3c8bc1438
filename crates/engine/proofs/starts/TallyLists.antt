-- A search in a list of stretches: those passed, and the size from which the one it stops at says where the block is.
use mathlib.Core.Path.{◌≡◌}
use mathlib.Core.List.{List}
use Prim.Native.Nat.{ℕ, suc, ◌+◌, ◌*◌, ◌≤◌, ◌<◌}
use native.Mathlib.Omega.{arith}
use lib.ListN.{get_or}
use Rattle.card.specs.Stretches.{stretches}
use Rattle.card.proofs.Tests.{by_lt, by_eq}
use Rattle.card.specs.Falling.{Falling}
use Rattle.engine.specs.Lists.{Holds}
use Rattle.counts.specs.TallySteps.{PresentFrom}
use Rattle.engine.specs.Starts.{Passed}
use Rattle.engine.proofs.ListedStretches.{stretches_rise, pairs_end, firsts, none, places, lasts}

module _ (list : List ℕ) (J : ℕ → ℕ) (n most i : ℕ) (fall : Falling J) (holds : Holds list J n) where
  -- no stretch is passed at the start
  pub passed_none : i ≡ 0 → Passed J n most i
  passed_none e m h l k = none J fall m (omega arith)

  -- one that is lower is passed
  pub passed_more : most < get_or list (2 * i + 1) 0 → Passed J n most i → Passed J n most (i + 1)
  passed_more lower old m h l k =
      by_eq (stretches J m) (suc i)
      (λ e. absurd (omega (arith, holds (2 * i + 1), lasts J fall n m i h e)))
      (λ d. old m h (omega arith) k)

  -- the first that is not lower begins at its first size
  pub begins_at : get_or list (2 * i + 1) 0 ≤ most → 0 < get_or list (2 * i) 0 → Passed J n most i → PresentFrom J n most (get_or list (2 * i) 0)
  begins_at high some old =
      by_lt i (stretches J n)
      (λ l. record {
        before = λ m h k. old m h ((firsts J n m i h l).lacks (omega (arith, holds (2 * i))));
        after = λ m h k. let there = places J fall n m i h ((firsts J n m i h l).has (omega (arith, holds (2 * i)))) in (there.0, omega (arith, holds (2 * i + 1)));
      })
      (λ l. absurd (omega (arith, holds (2 * i), pairs_end J n (2 * i) (omega arith))))

  -- past the last there is none
  begins_past : stretches J n ≤ i → Passed J n most i → PresentFrom J n most (n + 1)
  begins_past past old = record {
    before = λ m h k. old m h (omega (arith, stretches_rise J m n h));
    after = λ m h k. absurd (omega arith);
  }

  pub begins_none : get_or list (2 * i) 0 ≡ 0 → Passed J n most i → PresentFrom J n most (n + 1)
  begins_none e old =
      by_lt i (stretches J n)
      (λ l. absurd (omega (arith, (firsts J n 0 i (omega arith) l).has (omega (arith, holds (2 * i))))))
      (λ l. begins_past l old)

  pub begins_out : get_or list (2 * i + 1) 0 ≡ 0 → Passed J n most i → PresentFrom J n most (n + 1)
  begins_out e old =
      by_lt i (stretches J n)
      (λ l. absurd (omega (arith, places J fall n n i (omega arith) l, holds (2 * i + 1))))
      (λ l. begins_past l old)
