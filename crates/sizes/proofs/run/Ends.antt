-- Laws of the end of a pass: what is left to do after the records, from their answer.
use mathlib.Core.Path.{◌≡◌}
use mathlib.Core.List.{List}
use Prim.Native.Nat.{ℕ}
use native.Mathlib.Omega.{arith}
use lib.ListN.{length}
use Rattle.terms.specs.Reads.{Read}
use Rattle.trace.specs.Reading.{Reading, Given, Refused}
use Rattle.card.specs.Run.{count}
use Rattle.counts.specs.Columns.{counts_length, table}
use Rattle.counts.specs.Tallies.{Tallies}
use Rattle.counts.specs.TallySteps.{FinishReady}
use Rattle.pass.specs.Outcome as outcome
use Rattle.pass.specs.declared.answers.Report.{Report}
use Rattle.sizes.specs.Passing.{answer_after, counts_after, TalliedBy}

module _ (n : ℕ) (counts : List ℕ) where
  module _ (report : Report) where
    -- what finishing asks for
    pub done_given : length counts ≡ counts_length n → (x : Reading (List Read)) → outcome.Done report ≡ answer_after n x → TalliedBy n x counts → FinishReady counts n report.reads
    done_given long (Given rs at) e t = let same : length rs ≡ report.reads = cc in record { long = long; given = λ m o. count m o rs; gives = rw same at t }
    done_given long (Refused number place) e t = let z : ◌≡◌ {A = ℕ} 0 1 = cc in absurd (omega arith)

    -- and what it comes to
    pub done_after : (after : List ℕ) → ((c : ℕ → ℕ → ℕ) → Tallies n report.reads c counts → after ≡ table n c)
        → (x : Reading (List Read)) → outcome.Done report ≡ answer_after n x → TalliedBy n x counts → after ≡ counts_after n x
    done_after after f (Given rs at) e t = let same : length rs ≡ report.reads = cc in f (λ m o. count m o rs) (rw same at t)
    done_after after f (Refused number place) e t = let z : ◌≡◌ {A = ℕ} 0 1 = cc in absurd (omega arith)
