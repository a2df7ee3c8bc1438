use Prim.Native.Nat.{ℕ}
use Rattle.card.specs.Falling.{Falling}
use Rattle.engine.specs.Lists.{Holds}
use Rattle.engine.specs.Starts.{Passed}
use Rattle.engine.proofs.starts.first_within.Given as goal

abbrev pub invariant-loop-i : goal.invariant-loop-i
invariant-loop-i l = (J : ℕ → ℕ) (n : ℕ) → Falling J → Holds l.list J n → Passed J n l.most l.from → Passed J n l.most l.i
