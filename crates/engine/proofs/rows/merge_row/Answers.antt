-- The old list, and the new one merged from it.
use mathlib.Core.Path.{refl}
use Rattle.engine.specs.Moves.{other_after}
use Rattle.engine.proofs.rows.RowCounts.{stretches_entries}
use Rattle.engine.proofs.rows.merge_row.Goals as goal

pub returns-clause-merged : goal.returns-clause-merged
returns-clause-merged c J S T gj gs listed src old fits =
    let was = c.copy_row-old.ensures.begins S c.args.n src in
    let new = c.renew-new.ensures.holds J S T gj gs listed was.1 old fits in
    (new.1, stretches_entries (other_after J c.args.p S) c.args.n _ new.0, stretches_entries S c.args.n _ was.0, refl)
