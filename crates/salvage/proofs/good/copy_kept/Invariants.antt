use Rattle.terms.specs.Areas.{fronted}
use Rattle.salvage.specs.Steps.{pieces_left, good_after}
use Rattle.salvage.proofs.Turns.{Inside}
use Rattle.salvage.proofs.good.Keeps.{GoesOn}
use Rattle.salvage.proofs.good.copy_kept.Given as goal

abbrev pub invariant-loop-piece : goal.invariant-loop-piece
invariant-loop-piece l = record {
  inside : Inside l.trace (pieces_left l.piece-iterator);
  goes_on : GoesOn l.trace (pieces_left l.piece-iterator) l.out l.next (fronted (good_after l.trace l.start) l.fn.out);
}
