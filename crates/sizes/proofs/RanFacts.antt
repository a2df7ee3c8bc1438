-- What follows from the run's outcome: of an accepted trace the counts, the misses and the peaks; and that the contract leaves one outcome.
use mathlib.Core.Path.{◌≡◌, refl, ap, subst, ◌∙◌}
use mathlib.Core.List.{List, [], ◌∷◌, ◌++◌}
use mathlib.Core.Bool.{Bool, true, false, cond}
use Prim.Native.Nat.{ℕ, suc, ◌+◌, ◌-◌, ◌*◌, ◌/◌, ◌≤◌, ◌<◌}
use native.Mathlib.Omega.{arith}
use lib.ListN.{length, get_or, drop, get_or-append}
use Rattle.std.specs.Prelude.{Result}
use Rattle.terms.specs.declared.Fault.{Fault}
use Rattle.terms.specs.declared.Refusal.TheVariants.{Room}
use Rattle.terms.specs.Refusals.{number_of}
use Rattle.terms.specs.Ranges.{size}
use Rattle.terms.specs.Reads.{Read}
use Rattle.terms.specs.Areas.{fronted}
use Rattle.terms.proofs.Determined.{one_value}
use Rattle.trace.specs.Reading.{Reading, Given, Refused, Header, header_at, and_then}
use Rattle.trace.specs.Trace.{reads_from, Trace, trace_of}
use Rattle.card.specs.Run.{count}
use Rattle.card.specs.Stretches.{places_of, stretches, blocks_of, total, most_of_one, largest_after, half}
use Rattle.card.proofs.Outcomes.{counts_sum, fewer_misses}
use Rattle.card.proofs.Blocks.{largest_within, some_blocks}
use Rattle.card.proofs.StretchBounds.{stretches_half}
use Rattle.card.proofs.Totals.{total_bound}
use Rattle.counts.specs.Columns.{columns, cell_of, counts_of}
use Rattle.counts.proofs.Tables.{counts_length_lem, count_at}
use Rattle.pass.specs.Outcome as outcome
use Rattle.pass.specs.Frame.{Open, Shut}
use Rattle.pass.specs.Answers.{ran_answer}
use Rattle.pass.specs.declared.answers.Report.{Report}
use Rattle.pass.proofs.Frames as frames
use Rattle.pass.proofs.OneAnswer.{one_ran}
use Rattle.sizes.specs.Outcome.{Areas, Outcome, is_room, room_gate, report_of, emptied, frame_of, run_of}
use Rattle.sizes.specs.Answers.{areas_of, AreasAre}

-- ---- an accepted trace

-- the trace that the bytes are, and what the run answers and leaves
pub record Accepted (bytes : List ℕ) (areas : Areas) (report : Report) : Type 0 where
  pub trace : Trace
  pub end : ℕ
  pub is_trace : trace_of size.largest bytes ≡ Given trace end
  pub is_report : report ≡ report_of trace.header.size trace.reads
  pub counts_are : (run_of bytes areas).areas.counts ≡ fronted (counts_of trace.header.size trace.reads) areas.counts

trace_is : (bytes : List ℕ) (h : Header) (at : ℕ) (rs : List Read) (end : ℕ) → header_at size.largest bytes 0 ≡ Given h at → reads_from (length bytes) bytes at ≡ Given rs end
    → trace_of size.largest bytes ≡ Given (record { header = h; reads = rs }) end
unfolding trace_of
trace_is bytes h at rs end e f = rw (e, f)

pub done_accepted : (bytes : List ℕ) (areas : Areas) (report : Report) → (run_of bytes areas).answer ≡ outcome.Done report → Accepted bytes areas report
done_accepted bytes areas report d =
    let a = frames.done_accepted (frame_of bytes) areas report d in
    record {
      trace = record { header = a.header; reads = a.events };
      end = a.end;
      is_trace = trace_is bytes a.header a.start a.events a.end a.is_header a.are_events;
      is_report = a.is_told;
      counts_are = ap (λ (left : Areas). left.counts) a.is_left;
    }

-- ---- what an accepted trace comes to: with enough room it is run to its end, whatever blocks it names

-- the outcome of a trace that is accepted, by whether there is room for it
abbrev pub accepted_in : Areas → Bool → Trace → Outcome
accepted_in areas room t =
    cond room
    (outcome.done (report_of t.header.size t.reads) (emptied t.header.size (counts_of t.header.size t.reads) areas))
    (outcome.refused (number_of Room) 0 areas)

module _ (bytes : List ℕ) (areas : Areas) (t : Trace) (end : ℕ) where
  -- the run comes to what an accepted trace gives
  abbrev Comes : Trace → Type 0
  Comes u = run_of bytes areas ≡ accepted_in areas (is_room u.header.size areas) u

  by_room : (h : Header) (at : ℕ) → header_at size.largest bytes 0 ≡ Given h at → (rs : List Read) (after : ℕ) → reads_from (length bytes) bytes at ≡ Given rs after
      → (room : Bool) → is_room h.size areas ≡ room → run_of bytes areas ≡ accepted_in areas room (record { header = h; reads = rs })
  by_room h at e rs after f true g =
      let goes : room_gate h.size areas ≡ Open = rw g in frames.accepted_done (frame_of bytes) areas h at e goes rs after f
  by_room h at e rs after f false g =
      let stays : room_gate h.size areas ≡ Shut (number_of Room) 0 = rw g in frames.gate_shut (frame_of bytes) areas h at e (number_of Room) 0 stays

  by_records : (h : Header) (at : ℕ) → header_at size.largest bytes 0 ≡ Given h at → (x : Reading (List Read)) → reads_from (length bytes) bytes at ≡ x
      → and_then x (λ rs at₁. Given (record { header = h; reads = rs }) at₁) ≡ Given t end → Comes t
  by_records h at e (Given rs after) f g =
      let same : record { header = h; reads = rs } ≡ t = cc in subst Comes same (by_room h at e rs after f (is_room h.size areas) refl)
  by_records h at e (Refused number place) f g = let z : ◌≡◌ {A = ℕ} 0 1 = cc in absurd (omega arith)

  by_header : (x : Reading Header) → header_at size.largest bytes 0 ≡ x
      → and_then x (λ h at. and_then (reads_from (length bytes) bytes at) (λ rs at₁. Given (record { header = h; reads = rs }) at₁)) ≡ Given t end → Comes t
  by_header (Given h at) e g = by_records h at e (reads_from (length bytes) bytes at) refl g
  by_header (Refused number place) e g = let z : ◌≡◌ {A = ℕ} 0 1 = cc in absurd (omega arith)

  pub accepted_run : trace_of size.largest bytes ≡ Given t end → run_of bytes areas ≡ accepted_in areas (is_room t.header.size areas) t
  unfolding trace_of
  accepted_run e = by_header (header_at size.largest bytes 0) refl e

  pub accepted_done : trace_of size.largest bytes ≡ Given t end → is_room t.header.size areas ≡ true
      → run_of bytes areas ≡ outcome.done (report_of t.header.size t.reads) (emptied t.header.size (counts_of t.header.size t.reads) areas)
  accepted_done e room = accepted_run e ∙ rw room

-- ---- the peaks

-- the largest value is no more than what all are within
largest_bounded : (f : List Read → ℕ) (b : ℕ) → ((rs : List Read) → f rs ≤ b) → (earlier later : List Read) → largest_after f earlier later ≤ b
largest_bounded f b h earlier [] = omega arith
largest_bounded f b h earlier (r ∷ rs) = omega (arith, h (earlier ++ (r ∷ [])), largest_bounded f b h (earlier ++ (r ∷ [])) rs)

most_half : (n : ℕ) (rs : List Read) → most_of_one n rs ≤ half n
unfolding most_of_one
most_half n rs = largest_within (λ x. stretches (places_of rs x) n) (blocks_of rs) (half n) (λ x h. stretches_half rs x n (some_blocks rs x h))

-- ---- what holds of an accepted trace

module _ (bytes : List ℕ) (areas : Areas) (report : Report) (a : Accepted bytes areas report) where
  abbrev n : ℕ
  n = a.trace.header.size

  abbrev rs : List Read
  rs = a.trace.reads

  -- the count of an outcome at a size, as the run leaves it
  abbrev pub count_left : (m o : ℕ) → ℕ
  count_left m o = get_or (run_of bytes areas).areas.counts (cell_of (m - 1) o) 0

  pub cell_is : (m o : ℕ) → 1 ≤ m → m ≤ a.trace.header.size → o < columns → count_left m o ≡ count m o a.trace.reads
  cell_is m o h l g =
      let inside : cell_of (m - 1) o < length (counts_of n rs) = omega (arith, counts_length_lem n rs) in
      let back : suc (m - 1) ≡ m = omega arith in
      ap (λ (c : List ℕ). get_or c (cell_of (m - 1) o) 0) a.counts_are
      ∙ get_or-append (counts_of n rs) (drop (length (counts_of n rs)) areas.counts) 0 (cell_of (m - 1) o) inside
      ∙ count_at n rs (m - 1) o (omega arith) g
      ∙ ap (λ (k : ℕ). count k o rs) back

  -- the six of a size add up to the reads
  pub cells_sum : (m : ℕ) → 1 ≤ m → m ≤ a.trace.header.size → count_left m 0 + count_left m 1 + count_left m 2 + count_left m 3 + count_left m 4 + count_left m 5 ≡ report.reads
  cells_sum m h l =
      omega (arith, counts_sum m rs, ap (λ (x : Report). x.reads) a.is_report, cell_is m 0 h l (omega arith), cell_is m 1 h l (omega arith), cell_is m 2 h l (omega arith), cell_is m 3 h l (omega arith), cell_is m 4 h l (omega arith), cell_is m 5 h l (omega arith))

  -- misses, insert plus miss bypass, never rise with the size
  pub misses_fall : (m k : ℕ) → 1 ≤ m → m ≤ k → k ≤ a.trace.header.size → count_left k 4 + count_left k 5 ≤ count_left m 4 + count_left m 5
  misses_fall m k h l g =
      omega (arith, fewer_misses m k l rs, cell_is m 4 h (omega arith) (omega arith), cell_is m 5 h (omega arith) (omega arith), cell_is k 4 (omega arith) g (omega arith), cell_is k 5 (omega arith) g (omega arith))

  -- no block has ever more stretches than half of the sizes, rounded up
  pub one_half : report.one ≤ half a.trace.header.size
  one_half = omega (arith, ap (λ (x : Report). x.one) a.is_report, largest_bounded (most_of_one n) (half n) (most_half n) [] rs)

  -- and all blocks together no more than this
  pub total_within : report.total ≤ half a.trace.header.size * (half a.trace.header.size + 1) / 2 + (a.trace.header.size - half a.trace.header.size) * half a.trace.header.size
  total_within = omega (arith, ap (λ (x : Report). x.total) a.is_report, largest_bounded (total n) (half n * (half n + 1) / 2 + (n - half n) * half n) (total_bound n) [] rs)

-- ---- one outcome

-- what the contract says of an answer and the areas after it
abbrev pub Meets : Outcome → Result Report Fault → (blocks stretches counts : List ℕ) → Type 0
Meets o r blocks stretches counts = (ran_answer r ≡ o.answer) × AreasAre o.areas blocks stretches counts

pub areas_determined : (areas : Areas) (b s c b' s' c' : List ℕ) → AreasAre areas b s c → AreasAre areas b' s' c' → (b ≡ b') × (s ≡ s') × (c ≡ c')
areas_determined areas b s c b' s' c' e f = (one_value e.0 f.0, one_value e.1 f.1, one_value e.2 f.2)

-- three lists that are as they should be left are the areas
areas_of_lem : (areas : Areas) (b s c : List ℕ) → AreasAre areas b s c → areas_of b s c ≡ areas
areas_of_lem areas b s c e = rw (e.0, e.1, e.2)

pub run_determined : (bytes : List ℕ) (areas : Areas) (x y : Result Report Fault) (b s c b' s' c' : List ℕ)
    → Meets (run_of bytes areas) x b s c → Meets (run_of bytes areas) y b' s' c' → (x ≡ y) × ((b ≡ b') × (s ≡ s') × (c ≡ c'))
run_determined bytes areas x y b s c b' s' c' e f =
    let o = run_of bytes areas in
    let same = frames.determined ran_answer one_ran o x y (areas_of b s c) (areas_of b' s' c') (e.0, areas_of_lem o.areas b s c e.1) (f.0, areas_of_lem o.areas b' s' c' f.1) in
    (same.0, (ap (λ (a : Areas). a.blocks) same.1, ap (λ (a : Areas). a.stretches) same.1, ap (λ (a : Areas). a.counts) same.1))
