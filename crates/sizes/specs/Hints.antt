-- The same trace with every priority 0 written as 1.
use Rattle.std.specs.Prelude.{ℕ, List}
use Rattle.trace.specs.Spelling.{trace_spelling}
use Rattle.trace.specs.Trace.{Trace}
use Rattle.card.specs.Hints.{all_hinted}

-- its bytes
abbrev pub hinted_bytes : Trace → List ℕ
hinted_bytes t = trace_spelling t.header (all_hinted t.reads)
