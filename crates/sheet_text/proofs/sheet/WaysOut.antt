-- Laws of the ways out of the sheet, from the answers of the run and of the header reader.
use mathlib.Core.Path.{◌≡◌, sym, ap, ◌∙◌}
use mathlib.Core.List.{List}
use Prim.Native.Nat.{ℕ, ◌+◌, ◌^◌, ◌≤◌, ◌<◌}
use native.Mathlib.Omega.{arith}
use lib.ListN.{length}
use Rattle.std.specs.Prelude.{Result, Ok, Err, MatchResult}
use Rattle.terms.specs.declared.Fault.{Fault}
use Rattle.terms.specs.Refusals.{number_of}
use Rattle.terms.specs.Ranges.{size}
use Rattle.trace.specs.declared.header.Header.{Header}
use Rattle.trace.specs.Reading.{header_at}
use Rattle.trace.specs.Answers.{header_answer}
use Rattle.counts.specs.Columns.{counts_length}
use Rattle.pass.specs.declared.answers.Report.{Report}
use Rattle.pass.specs.Outcome as outcome
use Rattle.pass.specs.Answers.{ran_answer}
use Rattle.sizes.specs.Outcome.{Areas, run_of}
use Rattle.sheet_text.specs.declared.text.Text.{Text}
use Rattle.sheet_text.specs.Sheet.{cell, heading, lines_of, refused_line, size_in, sheet_of, Shows}
use Rattle.sheet_text.specs.Writing.{Takes}
use Rattle.sheet_text.proofs.Puts.{takes_then, put_shown}
use Rattle.sheet_text.proofs.sheet.Bounds.{counts_room, misses_reads}

-- ---- the size

pub size_read : (largest n : ℕ) (s : List ℕ) (a : Result Header Fault) → header_answer a ≡ header_at largest s 0 → MatchResult a (λ h. n ≡ h.size) (λ _. n ≡ 0) → n ≡ size_in (header_at largest s 0)
size_read largest n s (Ok h) e m = m ∙ ap size_in e
size_read largest n s (Err fault) e m = m ∙ ap size_in e

-- ---- the sheet

module _ (s : List ℕ) (areas : Areas) (a : Result Report Fault) (e : ran_answer a ≡ (run_of s areas).answer) where
  module _ (report : Report) (g : a ≡ Ok report) (counts : List ℕ) (f : counts ≡ (run_of s areas).areas.counts) (n : ℕ) (i : n ≡ size_in (header_at size.largest s 0)) where
    done : (run_of s areas).answer ≡ outcome.Done report
    done = sym e ∙ ap ran_answer g

    -- what the lines ask for
    pub lines_ready : report.reads < 2 ^ 64 → (counts_length n ≤ length counts) × ((m : ℕ) → m < n → cell counts m 4 + cell counts m 5 < 2 ^ 64)
    lines_ready h = rw (f, i) (counts_room s areas report done, λ m l. omega (arith, misses_reads s areas report done m l))

    pub sheet_done : {t t₁ t₂ : Text} → Takes t t₁ (heading report) → Takes t₁ t₂ (lines_of (cell counts) n) → Takes t t₂ (sheet_of s areas)
    unfolding sheet_of
    sheet_done v w = rw (done, ← f, ← i) (takes_then v w)

  pub sheet_refused : {t t₁ : Text} (fault : Fault) → a ≡ Err fault → Takes t t₁ (refused_line (number_of fault.refusal) fault.place) → Takes t t₁ (sheet_of s areas)
  unfolding sheet_of
  sheet_refused fault g w = rw (sym e ∙ ap ran_answer g) w

-- what a text shows that had nothing put into it before
pub whole : {t t₁ : Text} {bytes : List ℕ} → t.length ≡ 0 → Takes t t₁ bytes → Shows bytes t₁.length t.bytes.now t₁.bytes.now
whole {t} {t₁} {bytes} z w = (omega (arith, w.wrote.place), put_shown (rw z at w.wrote))
