-- What a run that is done leaves room for: the size that its trace names, and the counts of each size.
use mathlib.Core.Path.{◌≡◌, refl, sym, ap}
use mathlib.Core.List.{List}
use Prim.Native.Nat.{ℕ, suc, ◌+◌, ◌*◌, ◌≤◌, ◌<◌}
use native.Mathlib.Omega.{arith}
use lib.ListN.{length, drop, get_or, length-append}
use Rattle.terms.specs.Ranges.{size}
use Rattle.terms.specs.Reads.{Read}
use Rattle.trace.specs.Reading.{Reading, Given, Refused, Header, header_at, and_then}
use Rattle.trace.specs.Trace.{reads_from, Trace, trace_of}
use Rattle.pass.specs.Outcome as outcome
use Rattle.pass.specs.declared.answers.Report.{Report}
use Rattle.sizes.specs.Outcome.{Areas, run_of}
use Rattle.counts.specs.Columns.{counts_length, counts_of}
use Rattle.counts.proofs.Tables.{counts_length_lem}
use Rattle.sizes.proofs.run.WaysOut.{header_in}
use Rattle.sizes.proofs.RanFacts as ran
use Rattle.sizes.proofs.RanFacts.{Accepted, done_accepted, cells_sum}
use Rattle.sheet_text.specs.Sheet.{cell, size_in, longest_sheet}

-- ---- the size

pub size_within : (s : List ℕ) (x : Reading Header) → header_at size.largest s 0 ≡ x → size_in x ≤ size.largest
size_within s (Given h at) e = (header_in s h at (sym e)).1
size_within s (Refused number place) e = omega arith

-- a heading and a line for each size are short: the one place where the value of the largest size counts
pub lines_short : (s : List ℕ) → 128 + size_in (header_at size.largest s 0) * 256 ≤ longest_sheet
unfolding size
lines_short s = omega (arith, size_within s (header_at size.largest s 0) refl)

-- the size that the bytes name is that of the trace that they are
module _ (s : List ℕ) (t : Trace) (end : ℕ) where
  after_reads : (h : Header) (x : Reading (List Read)) → and_then x (λ rs at₁. Given (record { header = h; reads = rs }) at₁) ≡ Given t end → h.size ≡ t.header.size
  after_reads h (Given rs at) e = let same : record { header = h; reads = rs } ≡ t = cc in ap (λ (u : Trace). u.header.size) same
  after_reads h (Refused number place) e = let z : ◌≡◌ {A = ℕ} 0 1 = cc in absurd (omega arith)

  after_header : (x : Reading Header) → and_then x (λ h at. and_then (reads_from (length s) s at) (λ rs at₁. Given (record { header = h; reads = rs }) at₁)) ≡ Given t end
      → size_in x ≡ t.header.size
  after_header (Given h at) e = after_reads h (reads_from (length s) s at) e
  after_header (Refused number place) e = let z : ◌≡◌ {A = ℕ} 0 1 = cc in absurd (omega arith)

  pub trace_size : trace_of size.largest s ≡ Given t end → size_in (header_at size.largest s 0) ≡ t.header.size
  unfolding trace_of
  trace_size e = after_header (header_at size.largest s 0) e

-- ---- the counts

module _ (s : List ℕ) (areas : Areas) (report : Report) where
  abbrev n : ℕ
  n = size_in (header_at size.largest s 0)

  abbrev left : List ℕ
  left = (run_of s areas).areas.counts

  module _ (a : Accepted s areas report) where
    counts_held : counts_length n ≤ length left
    counts_held =
        let rs = a.trace.reads in
        let front = counts_of a.trace.header.size rs in
        omega (arith, trace_size s a.trace a.end a.is_trace, counts_length_lem a.trace.header.size rs, ap length a.counts_are, length-append front (drop (length front) areas.counts))

    -- a size's own counts, as `cells_sum` finds them
    cell_here : (m o : ℕ) → cell left m o ≡ ran.count_left s areas report a (suc m) o
    cell_here m o = ap (λ (i : ℕ). get_or left i 0) (omega arith)

    misses_held : (m : ℕ) → m < n → cell left m 4 + cell left m 5 ≤ report.reads
    misses_held m h =
        omega (arith, cells_sum s areas report a (suc m) (omega arith) (omega (arith, trace_size s a.trace a.end a.is_trace)), cell_here m 4, cell_here m 5)

  pub counts_room : (run_of s areas).answer ≡ outcome.Done report → counts_length n ≤ length left
  counts_room d = counts_held (done_accepted s areas report d)

  pub misses_reads : (run_of s areas).answer ≡ outcome.Done report → (m : ℕ) → m < n → cell left m 4 + cell left m 5 ≤ report.reads
  misses_reads d = misses_held (done_accepted s areas report d)
