-- `sheet::sheet_of` meets its contract: its areas have room for the largest size, and so for every trace.
use Rattle.std.proofs.Common.{rules}
use Rattle.terms.specs.Ranges.{size}
use Rattle.engine.specs.Rows.{stretches_length}
use Rattle.sheet_text.proofs.SheetFacts.{text_printed}
use Rattle.sheet.proofs.sheet_of.Goals as goal

pub returns-clause-text : goal.returns-clause-text
unfolding size stretches_length
returns-clause-text c = text_printed _ _ _ _ (search rules) (search rules) (search rules) c.args.text.now c.desk_sheet.ensures.text
