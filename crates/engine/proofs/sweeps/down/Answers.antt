-- Row by row: from the bottom up to the one after p.
use native.Mathlib.Omega.{arith}
use mathlib.Core.Path.{◌≡◌}
use Prim.Native.Nat.{◌+◌, ◌-◌}
use Rattle.engine.proofs.sweeps.Turns.{leads_down}
use Rattle.engine.proofs.sweeps.down.Goals as goal

pub loop-above-preserved : goal.loop-above-preserved
loop-above-preserved c =
    let grown = c.down_row-sum.ensures.grown in
    let e : c.loop-above.above - 1 + 1 ≡ c.loop-above.above = omega arith in
    let renews = rw e at c.down_row-sum.ensures.renews in (
      omega arith,
      (omega arith, omega arith),
      λ a h. leads_down (c.loop-above.above - 1) (c.loop-above.invariant.2 a h) renews c.requires.0.fits.read_at (omega arith) (omega arith) (omega arith),
    )

pub returns-clause-leads : goal.returns-clause-leads
returns-clause-leads c a h =
    let e : c.loop-above.above ≡ c.args.read.p = omega arith in
    rw e at (c.loop-above.invariant.2 a h)
