use Rattle.std.proofs.Common.{◌≡◌}
use Rattle.salvage.specs.Steps.{pieces_left, next_from}
use Rattle.salvage.proofs.Turns.{next_told, Inside}
use Rattle.salvage.proofs.listing.next_entry.Given as goal

-- the first entry of the pieces that are left is the one that was asked for
abbrev pub invariant-loop-piece : goal.invariant-loop-piece
invariant-loop-piece l = record {
  inside : Inside l.trace (pieces_left l.piece-iterator);
  first : next_told l.at (pieces_left l.piece-iterator) ≡ next_from l.trace l.from;
}
