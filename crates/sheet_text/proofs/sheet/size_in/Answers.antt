-- The size that the header names, where it is accepted.
use Rattle.std.proofs.Common.{rules}
use Rattle.terms.specs.Ranges.{size}
use Rattle.sheet_text.proofs.sheet.WaysOut.{size_read}
use Rattle.sheet_text.proofs.sheet.size_in.Goals as goal

pub returns : goal.returns
unfolding size
returns c = search (rules, size_read)
