-- What the functions of the run promise each other.
use Rattle.std.specs.Prelude.{ℕ, ◌+◌, ◌≤◌, ◌≡◌, Result, Ok, Err, List, length}
use Rattle.terms.specs.declared.Fault.{Fault}
use Rattle.terms.specs.Refusals.{number_of}
use Rattle.terms.specs.Areas.{zeros}
use Rattle.terms.specs.Ranges.{size}
use Rattle.terms.specs.Reads.{Read, read_of}
use Rattle.trace.specs.Reading.{Reading, Given, Refused}
use Rattle.trace.specs.declared.record.Record.{Record}
use Rattle.counts.specs.Columns.{counts_length, counts_of}
use Rattle.counts.specs.Tallies.{Tallied}
use Rattle.engine.specs.Rows.{stretches_length}
use Rattle.pass.specs.Outcome.{Answer}
use Rattle.pass.specs.Frame.{answered, leaves}
use Rattle.pass.specs.declared.answers.Report.{Report}
use Rattle.sizes.specs.Outcome.{Areas, report_of}
use Rattle.sizes.specs.declared.run.Areas as run

-- a size in its range, and areas of the lengths that it asks for
pub record OfSize (n : ℕ) (blocks stretches counts : List ℕ) : Type 0 where
  pub some : 1 ≤ n
  pub within : n ≤ size.largest
  pub places : length blocks ≡ n
  pub rows : length stretches ≡ stretches_length n
  pub columns : length counts ≡ counts_length n

-- so the run's areas are
abbrev pub Fitting : run.Areas → Type 0
Fitting areas = OfSize areas.n areas.blocks.now areas.stretches.now areas.counts.now

-- no read has touched them
pub record Untouched (areas : run.Areas) : Type 0 where
  pub places : areas.blocks.now ≡ zeros areas.n
  pub rows : areas.stretches.now ≡ zeros (stretches_length areas.n)
  pub columns : areas.counts.now ≡ zeros (counts_length areas.n)

-- they are the same areas after a call, for the same size
pub record Same (entry exit : run.Areas) : Type 0 where
  pub n : exit.n ≡ entry.n
  pub blocks : exit.blocks.ghost_name ≡ entry.blocks.ghost_name
  pub stretches : exit.stretches.ghost_name ≡ entry.stretches.ghost_name
  pub counts : exit.counts.ghost_name ≡ entry.counts.ghost_name

-- the answer of reading the record at a place of a trace
abbrev pub read_answer : ℕ → Result Record Fault → Reading Read
read_answer at (Ok r) = Given (read_of r.volume r.block r.priority) (at + r.length)
read_answer at (Err fault) = Refused (number_of fault.refusal) fault.place

-- the answer after the records
abbrev pub answer_after : ℕ → Reading (List Read) → Answer Report ℕ
answer_after n x = answered (report_of n) x

-- the counts after them
abbrev pub counts_after : ℕ → Reading (List Read) → List ℕ
counts_after n x = leaves (counts_of n) (zeros (counts_length n)) x

-- before the end: the tallies of the reads
abbrev pub TalliedBy : ℕ → Reading (List Read) → List ℕ → Type 0
TalliedBy n (Given rs at) counts = Tallied n rs counts
TalliedBy n (Refused number place) counts = Unit

-- the areas after the end
abbrev pub passed : ℕ → Reading (List Read) → Areas
passed n x = record { blocks = zeros n; stretches = zeros (stretches_length n); counts = counts_after n x }
