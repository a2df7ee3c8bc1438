-- The sheet as bytes, from what a run answers and the counts that it leaves.
use Rattle.std.specs.Prelude.{ℕ, zero, suc, ◌+◌, ◌≡◌, List, [], ◌∷◌, ◌++◌, length, get_or, take, drop}
use Rattle.trace.specs.Reading.{Reading, Given, Refused, Header, header_at}
use Rattle.terms.specs.Ranges.{size}
use Rattle.counts.specs.Columns.{columns, cell_of}
use Rattle.pass.specs.Outcome as outcome
use Rattle.pass.specs.declared.answers.Report.{Report}
use Rattle.sizes.specs.Outcome.{Areas, run_of}
use Rattle.sheet_text.specs.Decimal.{decimal}

-- the words of the sheet, in ASCII: "accesses", " stretches", " block", "refused", " at", and the end of a line
abbrev pub accesses : List ℕ
accesses = 97 ∷ 99 ∷ 99 ∷ 101 ∷ 115 ∷ 115 ∷ 101 ∷ 115 ∷ []

abbrev pub stretches : List ℕ
stretches = 32 ∷ 115 ∷ 116 ∷ 114 ∷ 101 ∷ 116 ∷ 99 ∷ 104 ∷ 101 ∷ 115 ∷ []

abbrev pub block : List ℕ
block = 32 ∷ 98 ∷ 108 ∷ 111 ∷ 99 ∷ 107 ∷ []

abbrev pub refused : List ℕ
refused = 114 ∷ 101 ∷ 102 ∷ 117 ∷ 115 ∷ 101 ∷ 100 ∷ []

abbrev pub at : List ℕ
at = 32 ∷ 97 ∷ 116 ∷ []

abbrev pub newline : List ℕ
newline = 10 ∷ []

-- a number after a single space
unfoldable pub spaced : ℕ → List ℕ
spaced n = 32 ∷ decimal n

-- the first line: what a finished run tells
unfoldable pub heading : Report → List ℕ
heading report = accesses ++ spaced report.reads ++ stretches ++ spaced report.total ++ block ++ spaced report.one ++ newline

-- the count of an outcome for the size after so many sizes
abbrev pub cell : List ℕ → (m o : ℕ) → ℕ
cell counts m o = get_or counts (cell_of m o) 0

-- the first k counts, by outcome
unfoldable pub spaced_row : ℕ → (ℕ → ℕ) → List ℕ
spaced_row zero counts = []
spaced_row (suc k) counts = spaced_row k counts ++ spaced (counts k)

-- the line of the size after m sizes: size, misses, and all its counts
unfoldable pub line_of : (ℕ → ℕ) → ℕ → List ℕ
line_of counts m = decimal (m + 1) ++ spaced (counts 4 + counts 5) ++ spaced_row columns counts ++ newline

-- the lines of sizes 1 to n, each with its counts
unfoldable pub lines_of : (ℕ → ℕ → ℕ) → ℕ → List ℕ
lines_of counts zero = []
lines_of counts (suc m) = lines_of counts m ++ line_of (counts m) m

-- the one line of a refusal
unfoldable pub refused_line : (number place : ℕ) → List ℕ
refused_line number place = refused ++ spaced number ++ at ++ spaced place ++ newline

-- the largest size that a trace names
abbrev pub size_in : Reading Header → ℕ
size_in (Given h at₁) = h.size
size_in (Refused number place) = 0

-- the sheet of a run: its answer and its counts
abbrev pub sheet_by : (n : ℕ) (counts : List ℕ) → outcome.Answer Report ℕ → List ℕ
sheet_by n counts (outcome.Done report) = heading report ++ lines_of (cell counts) n
sheet_by n counts (outcome.Refused number place) = refused_line number place

-- the sheet of a trace, in areas that are lent
unfoldable pub sheet_of : List ℕ → Areas → List ℕ
sheet_of bytes areas = sheet_by (size_in (header_at size.largest bytes 0)) (run_of bytes areas).areas.counts (run_of bytes areas).answer

-- no sheet is longer
abbrev pub longest_sheet : ℕ
longest_sheet = 32768

-- a text area with bytes at its front, as far as they fit
abbrev pub shown : (bytes text : List ℕ) → List ℕ
shown bytes text = take (length text) bytes ++ drop (length bytes) text

-- a call shows bytes: its answer is how many there are, and the text after it has them at its front
abbrev pub Shows : (bytes : List ℕ) (answer : ℕ) (before after : List ℕ) → Type 0
Shows bytes answer before after = (answer ≡ length bytes) × (after ≡ shown bytes before)
