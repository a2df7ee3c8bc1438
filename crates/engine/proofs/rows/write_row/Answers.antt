-- The row, lent as a part.
use native.Mathlib.Omega.{arith}
use mathlib.Core.Path.{ap}
use lib.ListN.{length}
use Rattle.engine.proofs.rows.RowParts.{back_row, lent_list}
use Rattle.engine.proofs.rows.write_row.Goals as goal

pub returns-clause-holds : goal.returns-clause-holds
returns-clause-holds c R T n er held =
    let area = c.args.area.now in
    let row = c.args.row in
    let is = c.range.ensures in
    back_row area row is c.requires.1 c.write_pair.new.out c.write_pair.auto.out R n (omega (arith, ap length er, c.requires.0)) (c.write_pair.ensures R n er (lent_list area row is c.requires.1 T n held))
