-- Stretch by stretch, up to the last one that begins by size t.
use native.Mathlib.Omega.{arith}
use Rattle.engine.proofs.lists.PairLaws.{at_still, at_end}
use Rattle.engine.proofs.lists.Cursor.at.Goals as goal

pub returns-else-x-list-clause-at : goal.returns-else-x-list-clause-at
returns-else-x-list-clause-at c J good begins h =
    let x = c.loop-x.x in
    let i = c.loop-x.invariant.2 J good begins h in
    absurd (omega (arith, at_end J c.args.list.now c.args.n i.0 x.passed x.place x.next begins (omega (arith, i.1)) (omega (arith, c.if-x-list.false)) i.2))

pub returns-after-loop-x-clause-at : goal.returns-after-loop-x-clause-at
returns-after-loop-x-clause-at c J good begins h =
    let x = c.loop-x.x in
    let i = c.loop-x.invariant.2 J good begins h in
    at_still J c.args.n i.0 x.passed x.place x.next c.args.t good (omega (arith, i.1)) i.2 i.1 (omega arith)
