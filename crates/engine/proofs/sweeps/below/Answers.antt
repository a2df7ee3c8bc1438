-- Row by row: from the last one up to the one after the bottom.
use native.Mathlib.Omega.{arith}
use mathlib.Core.Path.{◌≡◌}
use Prim.Native.Nat.{◌+◌, ◌-◌}
use Rattle.engine.proofs.sweeps.Stills.{halfway_still}
use Rattle.engine.proofs.sweeps.Turns.{leads_down}
use Rattle.engine.proofs.sweeps.below.Goals as goal

pub returns-then-list-read-clause-leads : goal.returns-then-list-read-clause-leads
returns-then-list-read-clause-leads c a h left J L finds half =
    let at = c.args in
    let low = c.requires.1 in
    halfway_still at.read left J L at.list.now finds c.requires.0.fits.read_at low.present c.if-list-read.true a at.bottom _ _ h low.reached low.within low.side half

pub loop-above-preserved : goal.loop-above-preserved
loop-above-preserved c =
    let pre = c.requires in
    let grown = c.below_row-sum.ensures.grown in
    let e : c.loop-above.above - 1 + 1 ≡ c.loop-above.above = omega arith in
    let renews = rw e at c.below_row-sum.ensures.renews in (
      omega arith,
      (omega arith, omega arith),
      λ a h. leads_down c.loop-above.above (c.loop-above.invariant.2 a h) renews pre.0.fits.read_at (omega (arith, pre.1.within)) (omega arith) (omega arith),
    )

pub returns-clause-leads : goal.returns-clause-leads
returns-clause-leads c a h =
    let e : c.args.bottom ≡ c.loop-above.above = omega arith in
    rw e (c.loop-above.invariant.2 a h)
