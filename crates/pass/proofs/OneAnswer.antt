-- No two answers of the code mean the same.
use mathlib.Core.Path.{◌≡◌, ap₂}
use Rattle.std.specs.Prelude.{ℕ, Result, Ok, Err}
use Rattle.terms.specs.declared.Refusal.{Refusal}
use Rattle.terms.specs.declared.Fault.{Fault}
use Rattle.terms.proofs.Refusals.{one_refusal}
use Rattle.pass.specs.Answers.{ran_answer}
use Rattle.pass.specs.declared.answers.Report.{Report}

pub one_ran : (x y : Result Report Fault) → ran_answer x ≡ ran_answer y → x ≡ y
one_ran (Ok a) (Ok b) q = cc
one_ran (Ok a) (Err f) q = cc
one_ran (Err f) (Ok b) q = cc
one_ran (Err f) (Err g) q =
    ap₂ (λ (refusal : Refusal) (place : ℕ). Err (record { refusal = refusal; place = place })) (one_refusal f.refusal g.refusal (cc)) (cc)
