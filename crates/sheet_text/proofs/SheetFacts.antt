-- What follows from the sheet's contract: the sheet of an accepted trace in terms of the separate runs, and that the contract leaves one outcome.
use mathlib.Core.Path.{◌≡◌, refl, ap, ap₂, ◌∙◌}
use mathlib.Core.Bool.{true, cond}
use mathlib.Core.List.{List, ◌++◌}
use Prim.Native.Nat.{ℕ, zero, suc, ◌≤◌, ◌<◌}
use native.Mathlib.Omega.{arith}
use lib.ListN.{length, take, drop, get_or-append}
use lib.Seq.{take_all, take_at}
use borrow.Author.Tests.{le-leb}
use Rattle.terms.specs.declared.Refusal.TheVariants.{Large}
use Rattle.terms.specs.Refusals.{number_of}
use Rattle.terms.specs.Ranges.{size}
use Rattle.terms.specs.Reads.{Read}
use Rattle.terms.proofs.Determined.{one_value}
use Rattle.trace.specs.Reading.{Reading, Given, Refused, header_at}
use Rattle.trace.specs.Trace.{Trace, trace_of}
use Rattle.card.specs.Run.{count}
use Rattle.pass.specs.declared.answers.Report.{Report}
use Rattle.sizes.specs.Outcome.{Areas, Outcome, is_room, report_of, run_of}
use Rattle.engine.specs.Rows.{stretches_length}
use Rattle.counts.specs.Columns.{columns, counts_length, cell_of, counts_of}
use Rattle.terms.specs.Areas.{fronted}
use Rattle.sizes.specs.Answers.{areas_of, AreasAre}
use Rattle.counts.proofs.Tables.{counts_length_lem, count_at}
use Rattle.sizes.proofs.RanFacts.{Accepted, done_accepted, accepted_done, areas_determined}
use Rattle.sizes.proofs.RoomFacts.{room_less, answer_by_trace}
use Rattle.sheet_text.specs.Sheet.{heading, cell, lines_of, refused_line, sheet_of, shown, Shows}
use Rattle.sheet_text.specs.Desk.{largest_input, is_large, desk_sheet_of, areas_after, printed_by, printed_of}
use Rattle.sheet_text.proofs.sheet.Bounds.{size_within, trace_size}
use Rattle.sheet_text.proofs.sheet.Lines.{line_same}

-- ---- lines with the same counts

lines_same : (f g : ℕ → ℕ → ℕ) (n : ℕ) → ((m o : ℕ) → m < n → o < columns → f m o ≡ g m o) → lines_of f n ≡ lines_of g n
unfolding lines_of
lines_same f g zero h = refl
lines_same f g (suc n) h = ap₂ (λ (x y : List ℕ). x ++ y) (lines_same f g n (λ m o l k. h m o (omega arith) k)) (line_same (f n) (g n) n (λ o k. h n o (omega arith) k))

-- ---- an accepted trace

module _ (s : List ℕ) (areas : Areas) (t : Trace) (end : ℕ) where
  abbrev n : ℕ
  n = t.header.size

  abbrev rs : List Read
  rs = t.reads

  module _ (e : trace_of size.largest s ≡ Given t end) (room : is_room t.header.size areas ≡ true) where
    same_counts : (report : Report) → Accepted s areas report → (run_of s areas).areas.counts ≡ fronted (counts_of n rs) areas.counts
    same_counts report a =
        let same : a.trace ≡ t = cc (a.is_trace, e) in
        a.counts_are ∙ ap (λ (u : Trace). fronted (counts_of u.header.size u.reads) areas.counts) same

    -- what the run leaves past the counts is on no line
    front_cell : (m o : ℕ) → m < n → o < columns → cell (fronted (counts_of n rs) areas.counts) m o ≡ cell (counts_of n rs) m o
    front_cell m o h g =
        get_or-append (counts_of n rs) (drop (length (counts_of n rs)) areas.counts) 0 (cell_of m o) (omega (arith, counts_length_lem n rs))

    sheet_fronted : sheet_of s areas ≡ heading (report_of n rs) ++ lines_of (cell (fronted (counts_of n rs) areas.counts)) n
    unfolding sheet_of
    sheet_fronted =
        let done = ap (λ (o : Outcome). o.answer) (accepted_done s areas t end e room) in
        let left = same_counts (report_of n rs) (done_accepted s areas (report_of n rs) done) in
        rw (done, left, trace_size s t end e)

    -- the reads, the peaks, and for each size the counts of the run of that size alone
    pub sheet_by_runs : sheet_of s areas ≡ heading (report_of n rs) ++ lines_of (λ m o. count (suc m) o rs) n
    sheet_by_runs =
        sheet_fronted ∙ ap (λ (x : List ℕ). heading (report_of n rs) ++ x)
        (lines_same (cell (fronted (counts_of n rs) areas.counts)) (λ m o. count (suc m) o rs) n (λ m o h g. front_cell m o h g ∙ count_at n rs m o h g))

-- ---- areas with room for the largest size

module _ (s blocks stretches counts : List ℕ) (h : size.largest ≤ length blocks) (g : stretches_length size.largest ≤ length stretches) (f : counts_length size.largest ≤ length counts) where
  abbrev areas : Areas
  areas = areas_of blocks stretches counts

  room : is_room size.largest areas ≡ true
  room = rw (le-leb size.largest (length blocks) h, le-leb (stretches_length size.largest) (length stretches) g, le-leb (counts_length size.largest) (length counts) f)

  sheet_printed : (x : Reading Trace) → trace_of size.largest s ≡ x → sheet_of s areas ≡ printed_by x
  unfolding sheet_of
  sheet_printed (Given t end) e =
      sheet_by_runs s areas t end e (room_less areas t.header.size size.largest (omega (arith, trace_size s t end e, size_within s (header_at size.largest s 0) refl)) room)
  sheet_printed (Refused number place) e = rw (answer_by_trace s areas room, e)

  -- the sheet comes from the input alone
  pub desk_printed : desk_sheet_of s (areas_of blocks stretches counts) ≡ printed_of s
  unfolding desk_sheet_of printed_of
  desk_printed = ap (λ (x : List ℕ). cond (is_large s) (refused_line (number_of Large) largest_input) x) (sheet_printed (trace_of size.largest s) refl)

  pub text_printed : (before : List ℕ) {r : ℕ} {after : List ℕ}
      → (r ≡ length (desk_sheet_of s (areas_of blocks stretches counts))) × (after ≡ shown (desk_sheet_of s (areas_of blocks stretches counts)) before)
      → (r ≡ length (printed_of s)) × (after ≡ shown (printed_of s) before)
  text_printed before e = rw desk_printed at e

-- bytes that a text has room for stand there whole
pub shows_whole : (bytes before : List ℕ) {r : ℕ} {after : List ℕ} → Shows bytes r before after → r ≤ length before → take r after ≡ bytes
shows_whole bytes before e h =
    let fits : length bytes ≤ length before = omega (arith, e.0) in
    rw (e.0, e.1, take_all (length before) bytes fits) (take_at bytes (drop (length bytes) before) (length bytes) refl)

-- ---- one outcome

-- what a contract says of an answer, and of the text and the areas after it, by the sheet and the areas that are meant
abbrev pub Meets : (sheet : List ℕ) (areas : Areas) (text : List ℕ) (r : ℕ) (text₁ blocks stretches counts : List ℕ) → Type 0
Meets sheet areas text r text₁ blocks stretches counts = (r ≡ length sheet) × (text₁ ≡ shown sheet text) × AreasAre areas blocks stretches counts

meets_one : (sheet : List ℕ) (areas : Areas) (text : List ℕ) (r r' : ℕ) (x b s c x' b' s' c' : List ℕ)
    → Meets sheet areas text r x b s c → Meets sheet areas text r' x' b' s' c' → (r ≡ r') × (x ≡ x') × ((b ≡ b') × (s ≡ s') × (c ≡ c'))
meets_one sheet areas text r r' x b s c x' b' s' c' e f = (one_value e.0 f.0, one_value e.1 f.1, areas_determined areas b s c b' s' c' e.2 f.2)

module _ (bytes : List ℕ) (areas : Areas) (text : List ℕ) (r r' : ℕ) (x b s c x' b' s' c' : List ℕ) where
  pub sheet_determined : Meets (sheet_of bytes areas) (run_of bytes areas).areas text r x b s c
      → Meets (sheet_of bytes areas) (run_of bytes areas).areas text r' x' b' s' c' → (r ≡ r') × (x ≡ x') × ((b ≡ b') × (s ≡ s') × (c ≡ c'))
  sheet_determined = meets_one (sheet_of bytes areas) (run_of bytes areas).areas text r r' x b s c x' b' s' c'

  pub desk_determined : Meets (desk_sheet_of bytes areas) (areas_after bytes areas) text r x b s c
      → Meets (desk_sheet_of bytes areas) (areas_after bytes areas) text r' x' b' s' c' → (r ≡ r') × (x ≡ x') × ((b ≡ b') × (s ≡ s') × (c ≡ c'))
  desk_determined = meets_one (desk_sheet_of bytes areas) (areas_after bytes areas) text r r' x b s c x' b' s' c'
