use Rattle.salvage.proofs.good.Copies.{Left}
use Rattle.salvage.proofs.good.copy_bytes.Given as goal

abbrev pub invariant-loop-i : goal.invariant-loop-i
invariant-loop-i l = Left l.initial.buffer l.at l.bytes l.buffer l.i
