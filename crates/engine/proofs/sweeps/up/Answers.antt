-- Row by row: from that of the block read up to the one before the bottom.
use native.Mathlib.Omega.{arith}
use mathlib.Core.Path.{◌≡◌}
use Prim.Native.Nat.{◌+◌}
use Rattle.engine.proofs.sweeps.Turns.{leads_up}
use Rattle.engine.proofs.sweeps.up.Goals as goal

pub loop-k-preserved : goal.loop-k-preserved
loop-k-preserved c =
    let sinks = c.requires.1 in
    let grown = c.up_row-sum.ensures.grown in (
      (omega arith, omega arith),
      leads_up (c.loop-k.k + 1) c.loop-k.invariant.1 c.up_row-sum.ensures.renews c.requires.0.fits.read_at (omega (arith, sinks.present)) (omega (arith, sinks.within)) (omega arith) (omega arith),
    )

pub returns-clause-leads : goal.returns-clause-leads
returns-clause-leads c =
    let e : c.loop-k.k ≡ c.args.bottom = omega arith in
    rw e at c.loop-k.invariant.1
