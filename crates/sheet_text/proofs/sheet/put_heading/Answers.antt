-- Each call puts in the next part of the line.
use Rattle.sheet_text.specs.Sheet.{heading}
use Rattle.sheet_text.proofs.Puts.{takes_then}
use Rattle.sheet_text.proofs.sheet.put_heading.Goals as goal

pub returns-clause-takes : goal.returns-clause-takes
unfolding heading
returns-clause-takes c =
    let reads = takes_then c.put_words.ensures c.put_spaced.ensures.takes in
    let total = takes_then (takes_then reads c.put_words-2.ensures) c.put_spaced-2.ensures.takes in
    takes_then (takes_then (takes_then total c.put_words-3.ensures) c.put_spaced-3.ensures.takes) c.put_words-4.ensures
