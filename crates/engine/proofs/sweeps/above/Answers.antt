-- Row by row: the first rows up to the one before lo.
use native.Mathlib.Omega.{arith}
use mathlib.Core.Path.{◌≡◌}
use Rattle.engine.proofs.sweeps.Turns.{leads_up}
use Rattle.engine.proofs.sweeps.above.Goals as goal

pub loop-k-preserved : goal.loop-k-preserved
loop-k-preserved c =
    let pre = c.requires in
    let grown = c.above_row-sum.ensures.grown in (
      (omega arith, omega arith),
      leads_up c.loop-k.k c.loop-k.invariant.1 c.above_row-sum.ensures.renews pre.0.fits.read_at (omega arith) (omega (arith, pre.1.within)) (omega arith) (omega (arith, pre.1.within)),
    )

pub returns-clause-leads : goal.returns-clause-leads
returns-clause-leads c =
    let e : c.args.lo ≡ c.loop-k.k = omega (arith, c.requires.1.some) in
    rw e c.loop-k.invariant.1
