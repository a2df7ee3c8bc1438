-- The row, lent as a part.
use Rattle.engine.proofs.rows.RowParts.{lent_holds}
use Rattle.engine.proofs.rows.copy_row.Goals as goal

pub returns-clause-begins : goal.returns-clause-begins
returns-clause-begins c R n held = c.copy_list.ensures.begins R n (lent_holds c.args.area.now c.args.row c.range.ensures c.requires.0 R n held)
