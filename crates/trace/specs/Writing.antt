-- What writing a header or a record leaves.
use Rattle.std.specs.Prelude.{ℕ, ◌+◌, cond, List, ◌++◌, length, take, drop, leb}
use Rattle.terms.specs.declared.Refusal.TheVariants.{Space}
use Rattle.terms.specs.Refusals.{number_of}
use Rattle.terms.specs.declared.range.Range.{Range}
use Rattle.terms.specs.Ranges.{in_range, edition, size, volume, block, priority}
use Rattle.terms.specs.Reads.{Read}
use Rattle.trace.specs.Reading.{Header}
use Rattle.trace.specs.Spelling.{spellings, header_values, read_values}

-- the length written, or the refusal's number
pub data Writing : Type 0 where
  Length : ℕ → Writing
  Refused : ℕ → Writing

-- the range of a field, and then what follows
abbrev pub ranged : Range → ℕ → Writing → Writing
ranged range v next = cond (in_range range v) next (Refused (number_of range.refusal))

-- space for so many bytes from an offset of a buffer on
abbrev pub spaced : ℕ → ℕ → ℕ → Writing
spaced room at n = cond (leb (at + n) room) (Length n) (Refused (number_of Space))

-- the answer to a header that is to be written at an offset of a buffer of so many bytes
unfoldable pub header_writing : Header → ℕ → ℕ → Writing
header_writing h room at =
    ranged edition h.edition (ranged size h.size (spaced room at (length (spellings (header_values h)))))

-- the answer to a record, likewise
unfoldable pub record_writing : Read → ℕ → ℕ → Writing
record_writing r room at =
    ranged volume r.volume
    (ranged block r.block (ranged priority r.priority (spaced room at (length (spellings (read_values r))))))

module _ {A : Type 0} where
  -- the elements xs in the place of those from an offset on
  abbrev pub put : List A → ℕ → List A → List A
  put s at xs = take at s ++ (xs ++ drop (at + length xs) s)

-- the buffer after the answer: all other bytes keep their values, and a refused write changes none
abbrev pub buffer_after : Writing → List ℕ → ℕ → List ℕ → List ℕ
buffer_after (Length n) s at xs = put s at xs
buffer_after (Refused number) s at xs = s

-- the buffer after a header is to be written at an offset of it
abbrev pub header_buffer : Header → List ℕ → ℕ → List ℕ
header_buffer h s at = buffer_after (header_writing h (length s) at) s at (spellings (header_values h))

-- after a record, likewise
abbrev pub record_buffer : Read → List ℕ → ℕ → List ℕ
record_buffer r s at = buffer_after (record_writing r (length s) at) s at (spellings (read_values r))
