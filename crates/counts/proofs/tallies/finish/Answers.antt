-- `counts::tallies::finish` meets its contract: after m turns the counts of m sizes are written.
use native.Mathlib.Omega.{arith}
use Rattle.counts.proofs.tallies.Turns.{none_counted, add_ready, next_gives, turn}
use Rattle.counts.proofs.tallies.finish.Goals as goal

pub loop-m-init : goal.loop-m-init
loop-m-init c = search none_counted

pub slice_bounds-add_size-end : goal.slice_bounds-add_size-end
slice_bounds-add_size-end c = omega (arith, c.requires.long, c.loop-m.invariant.same)

pub add_size-requires : goal.add_size-requires
add_size-requires c = add_ready _ _ _ c.requires _ _ _ c.loop-m.invariant (omega arith) _ (omega arith) (omega arith)

pub counts_of-requires : goal.counts_of-requires
counts_of-requires c =
    (_, next_gives _ _ _ c.requires _ _ _ c.loop-m.invariant (omega arith) _ (omega arith) _ c.add_size.ensures c.requires.given c.requires.gives)

pub loop-m-preserved : goal.loop-m-preserved
loop-m-preserved c = turn _ _ _ c.requires _ _ _ c.loop-m.invariant (omega arith) _ (omega arith) _ c.add_size.ensures _ _ c.write_size.auto.counts c.counts_of.ensures c.write_size.ensures
