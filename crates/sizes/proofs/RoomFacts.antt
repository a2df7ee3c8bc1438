-- Areas with room for the largest size have room for every trace: the run's answer then comes from the bytes alone.
use mathlib.Core.Path.{◌≡◌, refl, sym, ap, subst, ◌∙◌}
use mathlib.Core.Bool.{true}
use mathlib.Core.List.{List}
use Prim.Native.Nat.{ℕ, ◌≤◌}
use native.Mathlib.Omega.{arith}
use lib.ListN.{length}
use borrow.Author.Tests.{le-leb}
use Rattle.terms.specs.Ranges.{size}
use Rattle.terms.specs.Reads.{Read}
use Rattle.trace.specs.Reading.{Reading, Given, Refused, Header, header_at, and_then}
use Rattle.trace.specs.Trace.{reads_from, Trace, trace_of}
use Rattle.trace.proofs.Faults.{OfTrace, trace_refused}
use Rattle.pass.specs.Outcome as outcome
use Rattle.pass.specs.Frame.{Open, answered}
use Rattle.pass.specs.declared.answers.Report.{Report}
use Rattle.pass.proofs.Frames.{header_refused, after_events}
use Rattle.sizes.specs.Outcome.{Areas, Outcome, blocks_length, is_room, room_gate, report_of, frame_of, run_of}
use Rattle.engine.specs.Rows.{stretches_length}
use Rattle.engine.proofs.rows.RowLayout.{stretches_less}
use Rattle.counts.specs.Columns.{counts_length}
use Rattle.sizes.proofs.run.WaysOut.{header_in, room_in}

-- ---- room for a size is room for a smaller one

pub room_less : (areas : Areas) (n N : ℕ) → n ≤ N → is_room N areas ≡ true → is_room n areas ≡ true
room_less areas n N h room =
    let long = room_in N (length areas.blocks) (length areas.stretches) (length areas.counts) true (sym room) refl in
    rw (
      le-leb (blocks_length n) (length areas.blocks) (omega (arith, long.0)),
      le-leb (stretches_length n) (length areas.stretches) (omega (arith, long.1, stretches_less n N h)),
      le-leb (counts_length n) (length areas.counts) (omega (arith, long.2)),
    )

-- ---- a trace in such areas

-- the answer that a trace gets where there is room for it
abbrev pub answer_to : Reading Trace → outcome.Answer Report ℕ
answer_to (Given t end) = outcome.Done (report_of t.header.size t.reads)
answer_to (Refused number place) = outcome.Refused number place

module _ (bytes : List ℕ) (areas : Areas) (room : is_room size.largest areas ≡ true) where
  header_room : (h : Header) (at : ℕ) → header_at size.largest bytes 0 ≡ Given h at → is_room h.size areas ≡ true
  header_room h at e =
      room_less areas h.size size.largest (header_in bytes h at (sym e)).1 room

  by_records : (h : Header) (x : Reading (List Read)) → answered (report_of h.size) x ≡ answer_to (and_then x (λ rs at₁. Given (record { header = h; reads = rs }) at₁))
  by_records h (Given rs at) = refl
  by_records h (Refused number place) = refl

  by_header : (x : Reading Header) → header_at size.largest bytes 0 ≡ x
      → (run_of bytes areas).answer ≡ answer_to (and_then x (λ h at. and_then (reads_from (length bytes) bytes at) (λ rs at₁. Given (record { header = h; reads = rs }) at₁)))
  by_header (Given h at) e =
      let goes : room_gate h.size areas ≡ Open = rw (header_room h at e) in
      ap (λ (o : Outcome). o.answer) (after_events (frame_of bytes) areas h at e goes (reads_from (length bytes) bytes at) refl) ∙ by_records h (reads_from (length bytes) bytes at)
  by_header (Refused number place) e = ap (λ (o : Outcome). o.answer) (header_refused (frame_of bytes) areas number place e)

  -- no trace is refused for want of room
  pub answer_by_trace : (run_of bytes areas).answer ≡ answer_to (trace_of size.largest bytes)
  unfolding trace_of
  answer_by_trace = by_header (header_at size.largest bytes 0) refl

  answer_refused : (x : Reading Trace) → trace_of size.largest bytes ≡ x → (number place : ℕ) → answer_to x ≡ outcome.Refused number place → OfTrace number
  answer_refused (Given t end) e number place f = let z : ◌≡◌ {A = ℕ} 0 1 = cc in absurd (omega arith)
  answer_refused (Refused n at) e number place f = let same : n ≡ number = cc in subst OfTrace same (trace_refused size.largest bytes n at e)

  -- what it is refused for is a fault of its own, numbers 1 to 6
  pub never_room : (number place : ℕ) → (run_of bytes areas).answer ≡ outcome.Refused number place → OfTrace number
  never_room number place e = answer_refused (trace_of size.largest bytes) refl number place (sym answer_by_trace ∙ e)
