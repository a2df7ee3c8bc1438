-- Only a list with a place from the upper of the two on is touched.
use native.Mathlib.Omega.{arith}
use mathlib.Core.Path.{refl}
use mathlib.Core.Logic.{inl, inr, ⊎_elim}
use Prim.Native.Nat.{◌+◌}
use lib.ListN.{get_or}
use Rattle.engine.specs.Rows.{pairs, Row}
use Rattle.engine.proofs.rows.RowSkips.{keep_above}
use Rattle.engine.proofs.renewals.Ways.{way_above}
use Rattle.engine.proofs.renewals.RowSteps.{still_row, renews_merged}
use Rattle.engine.proofs.renewals.above_row.Goals as goal

pub returns-then-area-row-clause-renews : goal.returns-then-area-row-clause-renews
returns-then-area-row-clause-renews c J L f source was =
    let at = c.args in
    let pre = c.requires in
    let row = c.row-row in
    let held : Row at.area.now row.result (pairs (L at.k) at.read.n) = rw row.ensures.lies was in
    let wide = row.ensures.inside (omega (arith, pre.1.within)) in
    still_row (way_above at.read at.k row.ensures.lies pre.1 pre.2 pre.3) J L at.changes at.area.now
    (keep_above J (L at.k) at.read.p at.read.n at.read.j (get_or at.area.now (row.result.start + 1) 0) pre.0.fits.read_at f.falling (f.family.good at.k) f.there
    (held.same 1 (omega (arith, wide.0))) (omega (arith, c.if-area-row.true, pre.1.reach)) (⊎_elim (λ z. inl z) (λ z. inr (omega (arith, c.if-area-row.true))) pre.1.side))
    was

pub returns-clause-renews : goal.returns-clause-renews
returns-clause-renews c =
    let at = c.args in
    let pre = c.requires in
    let me = c.merge_row-more in
    renews_merged at.list.now (way_above at.read at.k c.row-row.ensures.lies pre.1 pre.2 pre.3) at.changes at.area.now pre.0.fits _ me.new.area refl me.result c.with.result me.ensures.kept.2 me.ensures.merged c.with.ensures
