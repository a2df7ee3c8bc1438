-- The rows above both places of the block read, those below both, those between, and its new place.
use native.Mathlib.Omega.{arith}
use Prim.Native.Nat.{◌-◌}
use Rattle.engine.proofs.sweeps.Turns.{leads_all}
use Rattle.engine.proofs.sweeps.renew_raised.Goals as goal

pub returns-clause-renewed : goal.returns-clause-renewed
returns-clause-renewed c =
    let at = c.args in
    let pre = c.requires in
    let fits = pre.0.ready.fits in
    leads_all at.list.now at.read at.read.p _ _ _ _ _ _ fits.read_at fits.some pre.0.fresh (omega (arith, pre.1, pre.2))
    (λ left J L finds half. c.down-all.ensures.leads (at.read.p - 1) (omega (arith, fits.read_at)) left J L finds
    (c.below-both.ensures.leads (at.read.p - 1) (omega (arith, pre.1)) left J L finds (c.above-upper.ensures.leads left J L finds half)))
    c.own_row.ensures.renewed
