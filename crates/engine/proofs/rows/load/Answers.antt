-- The row of place j, or nothing.
use native.Mathlib.Omega.{arith}
use mathlib.Core.Path.{sym, ◌∙◌}
use lib.ListN.{length, get_or-eq_default}
use Rattle.card.proofs.Tests.{by_lt}
use Rattle.engine.specs.Rows.{pairs}
use Rattle.card.proofs.StretchBounds.{stretches_none}
use Rattle.engine.proofs.ListedStretches.{length_pairs}
use Rattle.engine.proofs.rows.RowLayout.{row_inside, room_most}
use Rattle.engine.proofs.rows.load.Goals as goal

pub returns-then-j-eq0 : goal.returns-then-j-eq0
returns-then-j-eq0 c L fall none some q =
    c.requires.blank q ∙ sym (get_or-eq_default (pairs L c.args.n) 0 {n = q} (omega (arith, length_pairs L c.args.n, stretches_none L fall c.args.n (none c.if-j-eq0.true))))

pub copy_row-requires : goal.copy_row-requires
copy_row-requires c =
    let at = c.args in
    let pre = c.requires in
    rw (c.of.ensures at.n c.row_length.ensures)
    (omega (arith, row_inside at.n at.j (omega (arith, c.if-j-eq0.false)) pre.within, pre.room), omega (arith, room_most at.n at.j, pre.wide))

pub returns : goal.returns
returns c L fall none some q =
    let at = c.args in
    let copy = c.copy_row.ensures in
    let row = c.of.ensures at.n c.row_length.ensures in
    let e = copy.begins L at.n (rw row (some (omega (arith, c.if-j-eq0.false)))) in
    by_lt (length (pairs L at.n)) q
    (λ lt. copy.beyond q (omega (arith, e.0)) ∙ c.requires.blank q ∙ sym (get_or-eq_default (pairs L at.n) 0 {n = q} (omega arith)))
    (λ le. e.1 q le)
