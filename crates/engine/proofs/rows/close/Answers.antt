-- The row, lent as a part.
use mathlib.Core.Path.{◌∙◌}
use Rattle.engine.proofs.rows.RowParts.{back_within, lent_ends}
use Rattle.engine.proofs.rows.close.Goals as goal

pub returns-clause-closed : goal.returns-clause-closed
returns-clause-closed c T n fits same x le h =
    let area = c.args.area.now in
    let row = c.args.row in
    let is = c.range.ensures in
    back_within area row is c.requires c.fill.new.out c.fill.auto.out x h ∙ c.fill.ensures.1 (lent_ends area row is c.requires T n c.args.q fits same) x le
