-- A row that begins with a zero is that of a block that is nowhere.
use native.Mathlib.Omega.{arith}
use mathlib.Core.Path.{sym, ◌∙◌}
use Rattle.engine.specs.Moves.{other_after}
use Rattle.engine.proofs.rows.RowLaws.{row_first, row_none, after_none}
use Rattle.engine.proofs.rows.RowSkips.{nowhere}
use Rattle.engine.proofs.rows.RowCounts.{stretches_nowhere}
use Rattle.engine.proofs.rows.move_nothing.Goals as goal

pub returns-clause-moved : goal.returns-clause-moved
returns-clause-moved c _ n p J S T pos some gs src old fits =
    let none = nowhere S n gs some (omega (arith, row_first c.args.area.now c.args.from n S (omega (arith, c.requires.source_room)) src, c.if-area-from-gt0.false)) in
    let gone = after_none J p S pos none in (
      row_none _ c.args.to n (other_after J p S) (λ q. c.close.ensures.closed T n old.fits (λ x _. old.same x) q (omega arith)) gone,
      stretches_nowhere (other_after J p S) n gone ∙ sym (stretches_nowhere S n none),
    )
