use Rattle.engine.proofs.rows.Raisings.{Raising}
use Rattle.engine.proofs.rows.write_raised.Given as goal

abbrev pub invariant-loop-h : goal.invariant-loop-h
invariant-loop-h l = Raising l.initial.area l.area l.from l.to l.h
