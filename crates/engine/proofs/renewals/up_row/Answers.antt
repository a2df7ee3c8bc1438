-- What comes from the place below: nothing, a list whose places all go up by one, or a list that is merged.
use native.Mathlib.Omega.{arith}
use mathlib.Core.Path.{◌≡◌, ◌∙◌}
use Prim.Native.Nat.{ℕ, ◌+◌, ◌≤◌, ◌<◌}
use Rattle.engine.specs.Rows.{row_of}
use Rattle.engine.specs.declared.rows.Span.{Span}
use Rattle.engine.proofs.rows.RowSkips.{first_bound}
use Rattle.engine.proofs.rows.RowLayout.{rows_follow, rooms_fall}
use Rattle.engine.proofs.renewals.Ways.{way_up}
use Rattle.engine.proofs.renewals.RowSteps.{renews_none, renews_block, renews_merged}
use Rattle.engine.proofs.renewals.up_row.Goals as goal

pub returns-then-move_nothing-clause-renews : goal.returns-then-move_nothing-clause-renews
returns-then-move_nothing-clause-renews c =
    let at = c.args in
    let way = way_up at.read at.k c.row-from.ensures.lies c.row-to.ensures.lies c.requires.1 c.requires.2 in
    let mo = c.move_nothing in
    renews_none at.list.now way at.changes at.area.now c.requires.0.fits mo.new.area mo.ensures.kept.0 (mo.ensures.moved c.if-move_nothing.true)

-- the row below starts past the row, and has no more room
apart : (n k : ℕ) {from to : Span} → from ≡ row_of n (k + 1) → to ≡ row_of n k → 0 < k → (to.start + to.room ≤ from.start) × (from.room ≤ to.room)
apart n k from_is to_is low = rw (from_is, to_is) (rows_follow n k (k + 1) low (omega arith), rooms_fall n k (k + 1) (omega arith))

pub raise_list-requires : goal.raise_list-requires
raise_list-requires c =
    let sinks = c.requires.1 in
    let fits = c.requires.0.fits in
    let from = c.row-from.ensures.inside (omega (arith, sinks.within)) in
    let to = c.row-to.ensures.inside (omega (arith, sinks.within)) in
    let apart_is = apart c.args.read.n c.args.k c.row-from.ensures.lies c.row-to.ensures.lies (omega (arith, sinks.present)) in
    let kept = c.move_nothing.auto.area in
    (record { source = omega (arith, fits.room); target = omega (arith, fits.room); source_room = from.0; target_room = to.0 }, apart_is.0, apart_is.1)

pub returns-then-raise_list-clause-renews : goal.returns-then-raise_list-clause-renews
returns-then-raise_list-clause-renews c =
    let at = c.args in
    let pre = c.requires in
    let way = way_up at.read at.k c.row-from.ensures.lies c.row-to.ensures.lies pre.1 pre.2 in
    let present = pre.1.present in
    let n = at.read.n in
    let no = c.move_nothing.ensures.kept.1 c.if-move_nothing.false in
    let pa = c.raise_list in
    renews_block at.list.now way at.changes at.area.now pre.0.fits _ pa.new.area no.0 no.1 pa.ensures.kept.0
    (λ J L f there.
    let some = (first_bound J n n f.falling (omega arith) (omega (arith, f.there, present))).4 in
    pa.ensures.moved c.if-raise_list.true n at.read.j J (L (at.k + 1)) (L at.k) pre.0.fits.read_at f.falling (f.family.good (at.k + 1)) there f.there present (f.begins 0 (omega arith)) (f.begins 1 (omega (arith, some))))

pub returns-clause-renews : goal.returns-clause-renews
returns-clause-renews c =
    let at = c.args in
    let way = way_up at.read at.k c.row-from.ensures.lies c.row-to.ensures.lies c.requires.1 c.requires.2 in
    let same = c.raise_list.ensures.kept.1 c.if-raise_list.false ∙ (c.move_nothing.ensures.kept.1 c.if-move_nothing.false).0 in
    let me = c.merge_row-more in
    renews_merged at.list.now way at.changes at.area.now c.requires.0.fits _ me.new.area same me.result c.with.result me.ensures.kept.2 me.ensures.merged c.with.ensures
