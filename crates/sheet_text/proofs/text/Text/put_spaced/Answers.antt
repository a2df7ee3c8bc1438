-- A space, and the number after it.
use Rattle.sheet_text.specs.Sheet.{spaced}
use Rattle.sheet_text.proofs.Puts.{takes_then}
use Rattle.sheet_text.proofs.text.Text.put_spaced.Goals as goal

pub returns-clause-takes : goal.returns-clause-takes
unfolding spaced
returns-clause-takes c = takes_then c.put.ensures c.put_number.ensures.takes
