use lib.ListN.{take}
use Rattle.sheet_text.specs.Writing.{Wrote}
use Rattle.supharoek.proofs.told.show.Given as goal

abbrev pub invariant-loop-at : goal.invariant-loop-at
invariant-loop-at l = Wrote l.initial.out l.out 0 l.at (take l.at l.values)
