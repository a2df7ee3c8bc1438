-- A trace, and the same trace with every 0 written as 1: the run answers and leaves the same.
use mathlib.Core.Path.{◌≡◌, sym, ap, subst, fun_ext, ◌∙◌}
use mathlib.Core.Bool.{true}
use mathlib.Core.List.{List, [], ◌∷◌}
use Prim.Native.Nat.{ℕ}
use lib.ListN.{length, length-map}
use Rattle.terms.specs.Ranges.{in_range, size, priority}
use Rattle.terms.specs.Reads.{Read, ReadsOk}
use Rattle.trace.specs.Reading.{Given}
use Rattle.trace.specs.Spelling.{Bytes}
use Rattle.trace.specs.Trace.{Trace, trace_of}
use Rattle.trace.proofs.OneSpelling.{Gives}
use Rattle.trace.proofs.Ranged.{ranges_low}
use Rattle.trace.proofs.WholeTrace.{trace_spelled, trace_back}
use Rattle.card.specs.Hints.{hinted, all_hinted}
use Rattle.card.proofs.Tests.{by_eq, tests}
use Rattle.card.proofs.Hints.{zero_as_one}
use Rattle.counts.specs.Columns.{table, counts_of}
use Rattle.sizes.specs.Outcome.{Areas, report_of, run_of}
use Rattle.sizes.specs.Hints.{hinted_bytes}
use Rattle.sizes.proofs.RanFacts.{accepted_run}

-- ---- what is told of reads, and what they leave

pub report_hinted : (n : ℕ) (rs : List Read) → report_of n (all_hinted rs) ≡ report_of n rs
report_hinted n rs =
    let told = zero_as_one rs in
    rw (length-map rs hinted, told.3 n, told.4 n)

counts_hinted : (n : ℕ) (rs : List Read) → counts_of n (all_hinted rs) ≡ counts_of n rs
counts_hinted n rs = ap (table n) (fun_ext (λ m. fun_ext (λ o. (zero_as_one rs).1 m o)))

-- ---- the trace

-- 1 is a priority
priority_hinted : (r : Read) → in_range priority r.priority ≡ true → in_range priority (hinted r).priority ≡ true
unfolding priority
priority_hinted r ok = by_eq r.priority 0 (λ e. simp tests) (λ e. simp tests ok)

reads_hinted : (rs : List Read) → ReadsOk rs → ReadsOk (all_hinted rs)
reads_hinted [] ok = tt
reads_hinted (r ∷ rs) ok = ((ok.0.0, ok.0.1, priority_hinted r ok.0.2), reads_hinted rs ok.1)

module _ (bytes : List ℕ) (low : Bytes bytes) (t : Trace) (end : ℕ) (e : trace_of size.largest bytes ≡ Given t end) where
  pub hinted_back : trace_of size.largest (hinted_bytes t) ≡ Given (record { header = t.header; reads = all_hinted t.reads }) (length (hinted_bytes t))
  hinted_back =
      let ok = subst (Gives _) e (trace_spelled size.largest bytes low) in
      trace_back size.largest t.header (all_hinted t.reads) ranges_low.1 ok.2 (reads_hinted t.reads ok.3)

  pub hinted_run : (areas : Areas) → run_of (hinted_bytes t) areas ≡ run_of bytes areas
  hinted_run areas =
      accepted_run (hinted_bytes t) areas _ _ hinted_back
      ∙ rw (report_hinted t.header.size t.reads, counts_hinted t.header.size t.reads)
      (sym (accepted_run bytes areas t end e))
