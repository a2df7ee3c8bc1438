use mathlib.Core.Path.{◌≡◌}
use lib.ListN.{drop}
use Rattle.card.specs.State.{apart}
use Rattle.card.proofs.state.all_apart.Given as goal

abbrev pub invariant-loop-above : goal.invariant-loop-above
invariant-loop-above l = apart l.places ≡ apart (drop l.above l.places)
