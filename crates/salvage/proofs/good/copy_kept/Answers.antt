-- `salvage::good::copy_kept` meets its contract: a piece that is kept goes on the output. Assumes nothing.
use mathlib.Core.Path.{refl}
use Rattle.std.proofs.Common.{rules}
use Rattle.salvage.proofs.Turns.{in_turn}
use Rattle.salvage.proofs.good.Keeps.{after_piece}
use Rattle.salvage.proofs.good.copy_kept.Goals as goal

pub loop-piece-preserved-then-is_none : goal.loop-piece-preserved-then-is_none
loop-piece-preserved-then-is_none c =
    let invariant = c.loop-piece.invariant in
    rw c.copy_bytes-then-is_none.ensures
    record {
      inside = (in_turn c.args.trace.now _ _ c.in-Some.piece c.in-Some.ensures.steps invariant.inside).2;
      goes_on = after_piece c.args.trace.now _ _ c.in-Some.piece c.in-Some.ensures.steps invariant.inside (search rules) c.loop-piece.out c.loop-piece.next _ _ invariant.goes_on refl;
    }
