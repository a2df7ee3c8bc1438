-- Each call puts in the next part of the line.
use mathlib.Core.Path.{◌≡◌}
use native.Mathlib.Omega.{arith}
use Rattle.counts.specs.Columns.{columns}
use Rattle.sheet_text.specs.Sheet.{line_of}
use Rattle.sheet_text.proofs.Puts.{takes_then}
use Rattle.sheet_text.proofs.sheet.Lines.{takes_no_counts, takes_count}
use Rattle.sheet_text.proofs.sheet.put_line.Goals as goal

pub loop-count-init : goal.loop-count-init
loop-count-init c = (omega arith, takes_no_counts _)

pub loop-count-preserved : goal.loop-count-preserved
loop-count-preserved c = (omega arith, takes_count _ _ c.loop-count.invariant.1 c.put_spaced-in-loop-count.ensures.takes)

pub returns-clause-takes : goal.returns-clause-takes
unfolding line_of
returns-clause-takes c =
    let all : c.loop-count.count-index ≡ columns = omega arith in
    let row = rw all at c.loop-count.invariant.1 in
    takes_then (takes_then (takes_then c.put_number.ensures.takes c.put_spaced.ensures.takes) row) c.put_words.ensures
