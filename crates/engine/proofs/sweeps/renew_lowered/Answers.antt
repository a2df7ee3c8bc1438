-- The rows above both places of the block read, those below both, those between, and its new place or the last one.
use native.Mathlib.Omega.{arith}
use Prim.Native.Nat.{◌-◌}
use Rattle.engine.proofs.sweeps.Turns.{leads_all}
use Rattle.engine.proofs.sweeps.renew_lowered.Goals as goal

pub returns-clause-renewed : goal.returns-clause-renewed
returns-clause-renewed c =
    let at = c.args in
    let pre = c.requires in
    let fits = pre.0.ready.fits in
    let low = c.min-bottom in
    leads_all at.list.now at.read low.result _ _ _ _ _ _ fits.read_at fits.some pre.0.fresh low.ensures
    (λ left J L finds half. c.up-all.ensures.leads left J L finds
    (c.below-both.ensures.leads (at.read.j - 1) (omega (arith, low.ensures, pre.2, pre.3)) left J L finds (c.above-upper.ensures.leads left J L finds half)))
    c.own_row.ensures.renewed
