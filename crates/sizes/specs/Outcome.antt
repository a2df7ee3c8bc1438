-- What the run answers and leaves, from the bytes of the trace, the lengths of the lent areas and what they hold at entry.
use Rattle.std.specs.Prelude.{ℕ, Bool, ◌&&◌, cond, List, leb, length}
use Rattle.terms.specs.declared.Refusal.TheVariants.{Room}
use Rattle.terms.specs.Refusals.{number_of}
use Rattle.terms.specs.Ranges.{size}
use Rattle.terms.specs.Reads.{Read}
use Rattle.terms.specs.Areas.{zeros, fronted}
use Rattle.trace.specs.Reading.{Header, header_at}
use Rattle.trace.specs.Trace.{reads_from}
use Rattle.card.specs.Stretches.{peak_total, peak_of_one}
use Rattle.counts.specs.Columns.{counts_length, counts_of}
use Rattle.engine.specs.Rows.{stretches_length}
use Rattle.pass.specs.Outcome as outcome
use Rattle.pass.specs.Frame.{Gate, Open, Shut, Frame, ran}
use Rattle.pass.specs.declared.answers.Report.{Report}

-- the length of the block area that is asked for
abbrev pub blocks_length : ℕ → ℕ
blocks_length n = n

-- the three lent areas
pub record Areas : Type 0 where
  pub blocks : List ℕ
  pub stretches : List ℕ
  pub counts : List ℕ

-- each is long enough
abbrev pub is_room : ℕ → Areas → Bool
is_room n areas = leb (blocks_length n) (length areas.blocks) && (leb (stretches_length n) (length areas.stretches) && leb (counts_length n) (length areas.counts))

-- the gate: room for a size
abbrev pub room_gate : ℕ → Areas → Gate ℕ
room_gate n areas = cond (is_room n areas) Open (Shut (number_of Room) 0)

-- what is told of reads: how many there are, and the two peaks of the separate runs
abbrev pub report_of : ℕ → List Read → Report
report_of n rs = record { reads = length rs; total = peak_total n rs; one = peak_of_one n rs }

-- blocks and stretches zero, and counts at the front of theirs
abbrev pub emptied : ℕ → (counts : List ℕ) → Areas → Areas
emptied n counts areas = record {
  blocks = fronted (zeros (blocks_length n)) areas.blocks;
  stretches = fronted (zeros (stretches_length n)) areas.stretches;
  counts = fronted counts areas.counts;
}

-- header, then room, then reads to the end: of them the counts of the separate runs; a refused one leaves zeros
abbrev pub frame_of : List ℕ → Frame ℕ ℕ Header Read Report Areas
frame_of bytes = record {
  header = header_at size.largest bytes 0;
  gate = λ h. room_gate h.size;
  events = λ h at. reads_from (length bytes) bytes at;
  told = λ h. report_of h.size;
  left = λ h rs. emptied h.size (counts_of h.size rs);
  cleared = λ h. emptied h.size (zeros (counts_length h.size));
}

-- the answer, and the areas after it
abbrev pub Outcome : Type 0
Outcome = outcome.Outcome Report ℕ Areas

abbrev pub run_of : List ℕ → Areas → Outcome
run_of bytes = ran (frame_of bytes)
