-- The one spelling of a number, a header, a record and a trace.
use Rattle.std.specs.Prelude.{ℕ, zero, suc, ◌+◌, ◌/◌, ◌%◌, ◌<◌, cond, List, [], ◌∷◌, ◌++◌, flat_map, get_or, ltb}
use Rattle.trace.specs.Number.{bytes_before}
use Rattle.terms.specs.Reads.{Read}
use Rattle.trace.specs.Reading.{Header}

-- groups of seven bits, lowest first, with bit 7 set in every byte but the last; at most `left` bytes before the last
unfoldable pub spell : (left : ℕ) → ℕ → List ℕ
spell zero v = v ∷ []
spell (suc left) v = cond (ltb v 128) (v ∷ []) ((128 + v % 128) ∷ spell left (v / 128))

-- a number
abbrev pub spelling : ℕ → List ℕ
spelling v = spell bytes_before v

-- numbers, one after the other
abbrev pub spellings : List ℕ → List ℕ
spellings vs = flat_map spelling vs

-- the numbers of a header in their order
abbrev pub header_values : Header → List ℕ
header_values h = h.edition ∷ h.size ∷ []

-- the numbers of a record in their order
abbrev pub read_values : Read → List ℕ
read_values r = r.volume ∷ r.block ∷ r.priority ∷ []

-- the records of reads, one after the other
abbrev pub records_spelling : List Read → List ℕ
records_spelling rs = flat_map (λ r. spellings (read_values r)) rs

-- a header and then records
abbrev pub trace_spelling : Header → List Read → List ℕ
trace_spelling h rs = spellings (header_values h) ++ records_spelling rs

-- each element is a byte
abbrev pub Bytes : List ℕ → Type 0
Bytes s = (i : ℕ) → get_or s i 0 < 256
