-- What comes from the place above: nothing, one stretch, or a list that is merged.
use native.Mathlib.Omega.{arith}
use mathlib.Core.Path.{◌∙◌}
use mathlib.Core.Logic.{inl, inr, ⊎_elim}
use Prim.Native.Nat.{◌-◌}
use Rattle.engine.proofs.renewals.Ways.{way_down}
use Rattle.engine.proofs.renewals.RowSteps.{renews_none, renews_block, renews_merged}
use Rattle.engine.proofs.renewals.down_row.Goals as goal

pub returns-then-move_nothing-clause-renews : goal.returns-then-move_nothing-clause-renews
returns-then-move_nothing-clause-renews c =
    let at = c.args in
    let pre = c.requires in
    let way = way_down at.read at.k c.row-from.ensures.lies c.row-to.ensures.lies pre.0.fits.read_at pre.1 pre.2 pre.3 in
    let mo = c.move_nothing in
    renews_none at.list.now way at.changes at.area.now pre.0.fits mo.new.area mo.ensures.kept.0 (mo.ensures.moved c.if-move_nothing.true)

pub returns-then-lower_pair-clause-renews : goal.returns-then-lower_pair-clause-renews
returns-then-lower_pair-clause-renews c =
    let at = c.args in
    let pre = c.requires in
    let fits = pre.0.fits in
    let way = way_down at.read at.k c.row-from.ensures.lies c.row-to.ensures.lies fits.read_at pre.1 pre.2 pre.3 in
    let no = c.move_nothing.ensures.kept.1 c.if-move_nothing.false in
    let pa = c.lower_pair in
    renews_block at.list.now way at.changes at.area.now fits _ pa.new.area no.0 no.1 pa.ensures.kept.0
    (λ J L f there. pa.ensures.moved c.if-lower_pair.true at.read.n at.read.p at.read.j J (L (at.k - 1)) (L at.k) fits.read_at (omega arith) (omega (arith, fits.read_at)) f.falling (f.family.good (at.k - 1)) there f.there (⊎_elim (λ z. inl z) (λ z. inr (omega (arith, fits.read_at))) pre.3))

pub returns-clause-renews : goal.returns-clause-renews
returns-clause-renews c =
    let at = c.args in
    let pre = c.requires in
    let way = way_down at.read at.k c.row-from.ensures.lies c.row-to.ensures.lies pre.0.fits.read_at pre.1 pre.2 pre.3 in
    let same = c.lower_pair.ensures.kept.1 c.if-lower_pair.false ∙ (c.move_nothing.ensures.kept.1 c.if-move_nothing.false).0 in
    let me = c.merge_row-more in
    renews_merged at.list.now way at.changes at.area.now pre.0.fits _ me.new.area same me.result c.with.result me.ensures.kept.2 me.ensures.merged c.with.ensures
