-- What each answer of the code says, in the table's numbers and the format's values.
use Rattle.std.specs.Prelude.{ℕ, Result, Ok, Err}
use Rattle.terms.specs.declared.Refusal.{Refusal}
use Rattle.terms.specs.declared.Fault.{Fault}
use Rattle.terms.specs.Refusals.{number_of}
use Rattle.terms.specs.Reads.{read_of}
use Rattle.trace.specs.Number as number
use Rattle.trace.specs.Reading as reading
use Rattle.trace.specs.Writing as writing
use Rattle.trace.specs.declared.number.Number.{Number}
use Rattle.trace.specs.declared.field.Field.{Field}
use Rattle.trace.specs.declared.header.Header.{Header}
use Rattle.trace.specs.declared.record.Record.{Record}

-- the answer of the number reader
abbrev pub number_answer : Result Number Refusal → number.Numeral
number_answer (Ok n) = number.Value n.value n.length
number_answer (Err refusal) = number.Fault (number_of refusal)

-- of the reader of a number in a range
abbrev pub field_answer : Result Field Fault → reading.Reading ℕ
field_answer (Ok f) = reading.Given f.value f.end
field_answer (Err fault) = reading.Refused (number_of fault.refusal) fault.place

-- of the header reader
abbrev pub header_answer : Result Header Fault → reading.Reading reading.Header
header_answer (Ok h) = reading.Given (reading.header_of h.edition h.size) h.length
header_answer (Err fault) = reading.Refused (number_of fault.refusal) fault.place

-- of the record reader
abbrev pub record_answer : Result Record Fault → reading.Reading reading.Placed
record_answer (Ok r) = reading.Given (reading.placed_of (read_of r.volume r.block r.priority) r.priority_at) r.length
record_answer (Err fault) = reading.Refused (number_of fault.refusal) fault.place

-- of both writers
abbrev pub written_answer : Result ℕ Refusal → writing.Writing
written_answer (Ok n) = writing.Length n
written_answer (Err refusal) = writing.Refused (number_of refusal)
