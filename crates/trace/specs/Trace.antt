-- What reading a whole trace finds: a header, and then records to the end of the bytes.
use Rattle.std.specs.Prelude.{ℕ, Bool, List, length, leb}
use Rattle.terms.specs.Reads.{Read}
use Rattle.trace.specs.Reading.{Reading, Given, and_then, Header, header_at, record_at}
use Rattle.trace.specs.Events.{events_from}

-- the place is past the last byte
abbrev pub at_end : List ℕ → ℕ → Bool
at_end s at = leb (length s) at

-- the reads from a place on. A record has a byte, so as many steps as there are bytes reach the end
unfoldable pub reads_from : (steps : ℕ) → List ℕ → ℕ → Reading (List Read)
reads_from steps s at = events_from (at_end s) (record_at s) steps at

-- a trace is a header and reads
pub record Trace : Type 0 where
  pub header : Header
  pub reads : List Read

-- the trace that the bytes are, whose size is to be no larger than the largest
unfoldable pub trace_of : (largest : ℕ) → List ℕ → Reading Trace
trace_of largest s =
    and_then (header_at largest s 0) (λ h at. and_then (reads_from (length s) s at) (λ rs at₁. Given (record { header = h; reads = rs }) at₁))
