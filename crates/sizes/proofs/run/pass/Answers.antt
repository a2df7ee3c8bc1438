-- `sizes::run::pass` meets its contract: the areas are zeros before the records, and after them the tallies become counts. Assumes nothing.
use mathlib.Core.Path.{◌≡◌}
use Rattle.std.proofs.Common.{rules}
use Rattle.sizes.proofs.run.Ends.{done_given, done_after}
use Rattle.sizes.proofs.run.pass.Goals as goal

pub finish-requires : goal.finish-requires
finish-requires c =
    let said = c.in-Ok.ensures in
    let n : c.read_records-report.new.self.n ≡ c.args.n = cc in
    done_given _ _ _ (rw n at said.fitting.columns) _ (rw n at said.answer) (rw n at said.tallied)

pub returns-in-Ok-clause-areas : goal.returns-in-Ok-clause-areas
returns-in-Ok-clause-areas c =
    let said = c.in-Ok.ensures in
    let n : c.read_records-report.new.self.n ≡ c.args.n = cc in
    let counted = done_after _ _ c.in-Ok.report _ c.finish.ensures _ (rw n at said.answer) (rw n at said.tallied) in
    (search rules, search rules, search rules)
