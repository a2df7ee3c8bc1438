-- Each call puts in the next part of the line.
use Rattle.sheet_text.specs.Sheet.{refused_line}
use Rattle.sheet_text.proofs.Puts.{takes_then}
use Rattle.sheet_text.proofs.text.Text.put_refused.Goals as goal

pub returns-clause-takes : goal.returns-clause-takes
unfolding refused_line
returns-clause-takes c =
    let number = rw (c.from-2.ensures, c.from.ensures) at c.put_spaced.ensures.takes in
    takes_then (takes_then (takes_then (takes_then c.put_words.ensures number) c.put_words-2.ensures) c.put_spaced-2.ensures.takes) c.put_words-3.ensures
