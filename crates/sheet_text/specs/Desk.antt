-- The sheet that the program prints: too long an input is refused before anything is run.
use Rattle.std.specs.Prelude.{ℕ, suc, Bool, cond, List, ◌++◌, ltb, length}
use Rattle.terms.specs.declared.Refusal.TheVariants.{Large}
use Rattle.terms.specs.Refusals.{number_of}
use Rattle.terms.specs.Ranges.{size}
use Rattle.trace.specs.Reading.{Reading, Given, Refused}
use Rattle.trace.specs.Trace.{Trace, trace_of}
use Rattle.card.specs.Run.{count}
use Rattle.sizes.specs.Outcome.{Areas, report_of, run_of}
use Rattle.sheet_text.specs.Sheet.{heading, lines_of, refused_line, sheet_of}

-- the most bytes that the program takes
abbrev pub largest_input : ℕ
largest_input = 16384

abbrev pub is_large : List ℕ → Bool
is_large bytes = ltb largest_input (length bytes)

-- the sheet of an input
unfoldable pub desk_sheet_of : List ℕ → Areas → List ℕ
desk_sheet_of bytes areas = cond (is_large bytes) (refused_line (number_of Large) largest_input) (sheet_of bytes areas)

-- the areas after it
unfoldable pub areas_after : List ℕ → Areas → Areas
areas_after bytes areas = cond (is_large bytes) areas (run_of bytes areas).areas

-- what a trace comes to on paper: the reads, the peaks and for each size the counts of the run of that size alone; or its one fault
abbrev pub printed_by : Reading Trace → List ℕ
printed_by (Given t end) =
    heading (report_of t.header.size t.reads) ++ lines_of (λ m o. count (suc m) o t.reads) t.header.size
printed_by (Refused number place) = refused_line number place

-- what the program prints, from its input alone
unfoldable pub printed_of : List ℕ → List ℕ
printed_of bytes = cond (is_large bytes) (refused_line (number_of Large) largest_input) (printed_by (trace_of size.largest bytes))
