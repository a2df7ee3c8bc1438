-- A trace, and the same trace with every 0 written as 1: the program prints the same sheet.
use mathlib.Core.Path.{◌≡◌, sym, ap, fun_ext, ◌∙◌}
use mathlib.Core.List.{List}
use Prim.Native.Nat.{ℕ, suc}
use native.Mathlib.Omega.{arith}
use lib.ListN.{length}
use Rattle.terms.specs.Ranges.{size}
use Rattle.terms.specs.Reads.{Read}
use Rattle.trace.specs.Reading.{Given}
use Rattle.trace.specs.Spelling.{spellings, read_values, Bytes}
use Rattle.trace.specs.Trace.{Trace, trace_of}
use Rattle.trace.proofs.Lengths.{record_as_long, trace_as_long}
use Rattle.trace.proofs.WholeTrace.{accepted_is_spelled}
use Rattle.card.specs.Run.{count}
use Rattle.card.specs.Hints.{hinted, all_hinted}
use Rattle.card.proofs.Tests.{by_eq, tests}
use Rattle.card.proofs.Hints.{zero_as_one}
use Rattle.sizes.specs.Hints.{hinted_bytes}
use Rattle.sizes.proofs.Hints.{report_hinted, hinted_back}
use Rattle.sheet_text.specs.Sheet.{lines_of}
use Rattle.sheet_text.specs.Desk.{printed_of}

-- 0 and 1 are one byte each
record_long : (r : Read) → length (spellings (read_values (hinted r))) ≡ length (spellings (read_values r))
record_long r = by_eq r.priority 0 (λ e. simp tests (record_as_long r 1 (omega arith) (omega arith))) (λ e. simp tests)

lines_hinted : (n : ℕ) (rs : List Read) → lines_of (λ m o. count (suc m) o (all_hinted rs)) n ≡ lines_of (λ m o. count (suc m) o rs) n
lines_hinted n rs = ap (λ (counts : ℕ → ℕ → ℕ). lines_of counts n) (fun_ext (λ m. fun_ext (λ o. (zero_as_one rs).1 (suc m) o)))

module _ (bytes : List ℕ) (low : Bytes bytes) (t : Trace) (end : ℕ) (e : trace_of size.largest bytes ≡ Given t end) where
  pub hinted_printed : printed_of (hinted_bytes t) ≡ printed_of bytes
  unfolding printed_of
  hinted_printed =
      let long : length (hinted_bytes t) ≡ length bytes = trace_as_long hinted record_long t.header t.reads ∙ ap length (sym (accepted_is_spelled size.largest bytes low t end e)) in
      rw (long, hinted_back bytes low t end e, e, report_hinted t.header.size t.reads, lines_hinted t.header.size t.reads)
