use Rattle.std.proofs.Common.{◌≡◌, ◌+◌, length}
use Rattle.salvage.specs.Steps.{pieces_left, good_after, entries_from}
use Rattle.salvage.proofs.Turns.{kept_told, listed_told, Inside}
use Rattle.salvage.proofs.good.measure.Given as goal

abbrev pub invariant-loop-piece : goal.invariant-loop-piece
invariant-loop-piece l = record {
  inside : Inside l.trace (pieces_left l.piece-iterator);
  bytes : l.bytes + length (kept_told l.trace (pieces_left l.piece-iterator)) ≡ length (good_after l.trace l.start);
  entries : l.entries + length (listed_told (pieces_left l.piece-iterator)) ≡ length (entries_from l.trace l.start);
}
