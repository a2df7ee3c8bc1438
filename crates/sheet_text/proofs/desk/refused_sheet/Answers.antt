-- A text that was empty shows what was put into it.
use mathlib.Core.Path.{◌∙◌}
use Rattle.std.proofs.Common.{rules}
use Rattle.sheet_text.proofs.sheet.WaysOut.{whole}
use Rattle.sheet_text.proofs.desk.refused_sheet.Goals as goal

pub returns-clause-text : goal.returns-clause-text
returns-clause-text c =
    let shows = whole c.new-text.ensures.empty c.put_refused.ensures.takes in
    let same = c.put_refused.ensures.takes.same ∙ c.new-text.ensures.same in
    (c.length.ensures ∙ shows.0, search rules)
