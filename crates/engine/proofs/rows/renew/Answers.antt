-- The row, lent as a part.
use native.Mathlib.Omega.{arith}
use Rattle.engine.specs.Moves.{other_after}
use Rattle.engine.proofs.rows.RowParts.{back_row, lent_length, lent_list}
use Rattle.engine.proofs.rows.renew.Goals as goal

pub returns-clause-holds : goal.returns-clause-holds
returns-clause-holds c J L T gj gl hd hb held fits =
    let area = c.args.area.now in
    let row = c.args.row in
    let is = c.range.ensures in
    let r = c.merge.ensures.merged J L gj gl hd hb (lent_list area row is c.requires.1 T c.args.n held) (omega (arith, fits, lent_length area row is c.requires.1)) in
    (r.0, back_row area row is c.requires.1 c.merge.new.out c.merge.auto.out (other_after J c.args.p L) c.args.n fits r.1)
