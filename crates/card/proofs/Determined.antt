-- The promises leave one answer: any two outcomes that a contract allows for the same input coincide.
use mathlib.Core.Path.{◌≡◌, sym, ap, ap₂, ◌∙◌}
use mathlib.Core.Bool.{Bool}
use mathlib.Core.List.{List}
use Prim.Native.Nat.{ℕ, suc, ◌%◌, max}
use native.Mathlib.Omega.{arith}
use Rattle.std.specs.Prelude.{Option, None, Some, Result, Ok, Err, Float}
use Rattle.terms.specs.declared.Refusal.{Refusal}
use Rattle.terms.specs.Ranges.{volume, block}
use Rattle.terms.proofs.Refusals.{one_refusal}
use Rattle.terms.proofs.Determined.{one_value}
use Rattle.card.specs.declared.outcome.Outcome.{Outcome}
use Rattle.card.specs.declared.outcome.NoOutcome.{NoOutcome}
use Rattle.card.specs.declared.step.Card.{Card}
use Rattle.card.specs.declared.step.Stepped.{Stepped}
use Rattle.card.specs.Rule.{key_of, place, outcome_on, moved_from, after_read}
use Rattle.card.specs.Outcomes.{outcome_number, Numbered}
use Rattle.card.specs.Counts.{is_hit, counting_of, counts_after}
use Rattle.card.specs.State as state
use Rattle.card.specs.Ratio as ratio
use Rattle.card.specs.Answers.{answer_of, stepped_answer, counted_answer, ratio_answer}
use Rattle.card.proofs.OutcomeNumbers.{one_outcome, number_low}

one_answer : (x y : Result Outcome Refusal) → answer_of x ≡ answer_of y → x ≡ y
one_answer (Ok o) (Ok n) e = ap Ok (one_outcome o n (cc))
one_answer (Ok o) (Err r) e = cc
one_answer (Err r) (Ok n) e = cc
one_answer (Err r) (Err s) e = ap Err (one_refusal r s (cc))

card_of : ℕ → List ℕ → Card
card_of m places = record { size = m; places = places }

stepped_of : Result Outcome Refusal → Card → Stepped
stepped_of a c = record { answer = a; card = c }

one_stepped : (x y : Stepped) → stepped_answer x ≡ stepped_answer y → x ≡ y
unfolding card_of stepped_of
one_stepped x y e =
    ap₂ stepped_of
    (one_answer x.answer y.answer (ap (λ (s : state.Stepped). s.answer) e))
    (ap₂ card_of (ap (λ (s : state.Stepped). s.size) e) (ap (λ (s : state.Stepped). s.places) e))

one_counted : (x y : Result ℕ Refusal) → counted_answer x ≡ counted_answer y → x ≡ y
one_counted (Ok n) (Ok m) e = cc
one_counted (Ok n) (Err r) e = cc
one_counted (Err r) (Ok m) e = cc
one_counted (Err r) (Err s) e = ap Err (one_refusal r s (cc))

one_ratio : (x y : Option Float) → ratio_answer x ≡ ratio_answer y → x ≡ y
one_ratio (Some a) (Some b) e = cc
one_ratio (Some a) None e = cc
one_ratio None (Some b) e = cc
one_ratio None None e = cc

no_outcome : ℕ → NoOutcome
no_outcome n = record { 0 = n }

one_none : (x y : NoOutcome) → x.0 ≡ y.0 → x ≡ y
unfolding no_outcome
one_none x y e = ap no_outcome e

-- ---- the contracts

pub key_determined : (v b x y : ℕ) → x ≡ key_of (v % suc volume.largest) (b % suc block.largest) → y ≡ key_of (v % suc volume.largest) (b % suc block.largest) → x ≡ y
key_determined v b x y e f = one_value e f

pub place_determined : (c : List ℕ) (key x y : ℕ) → x ≡ place c key → y ≡ place c key → x ≡ y
place_determined c key x y e f = one_value e f

-- one read on a card: the outcome and the card after it
pub read_determined : (c : List ℕ) (key p : ℕ) (x y : Outcome) (d d' : List ℕ)
    → (outcome_number x ≡ outcome_on c key (max 1 p)) × (d ≡ after_read c key (max 1 p)) → (outcome_number y ≡ outcome_on c key (max 1 p)) × (d' ≡ after_read c key (max 1 p))
    → (x ≡ y) × (d ≡ d')
read_determined c key p x y d d' e f = (one_outcome x y (one_value e.0 f.0), one_value e.1 f.1)

-- its second half: the card after it
pub moved_determined : (c : List ℕ) (key j p : ℕ) (d d' : List ℕ) → d ≡ moved_from c key j (max 1 p) → d' ≡ moved_from c key j (max 1 p) → d ≡ d'
moved_determined c key j p d d' e f = one_value e f

-- the place that a priority asks for
pub priority_determined : (p x y : ℕ) → x ≡ max 1 p → y ≡ max 1 p → x ≡ y
priority_determined p x y e f = one_value e f

pub hit_determined : (o : ℕ) (x y : Bool) → x ≡ is_hit o → y ≡ is_hit o → x ≡ y
hit_determined o x y e f = one_value e f

-- the number of an outcome, and the outcome of a number
pub outcome_number_determined : (o : Outcome) (x y : ℕ) → x ≡ outcome_number o → y ≡ outcome_number o → x ≡ y
outcome_number_determined o x y e f = one_value e f

pub outcome_of_number_determined : (n : ℕ) (x y : Result Outcome NoOutcome) → Numbered n x → Numbered n y → x ≡ y
outcome_of_number_determined n (Ok o) (Ok m) e f = ap Ok (one_outcome o m (sym e ∙ f))
outcome_of_number_determined n (Ok o) (Err none) e f = absurd (omega (arith, number_low o, f.1))
outcome_of_number_determined n (Err none) (Ok m) e f = absurd (omega (arith, number_low m, e.1))
outcome_of_number_determined n (Err none) (Err other) e f = ap Err (one_none none other (one_value e.0 f.0))

-- an outcome counted: the answer and the counts after it
pub count_determined : (o : ℕ) (counts : List ℕ) (x y : Result ℕ Refusal) (d d' : List ℕ)
    → (counted_answer x ≡ counting_of o counts) × (d ≡ counts_after o counts) → (counted_answer y ≡ counting_of o counts) × (d' ≡ counts_after o counts) → (x ≡ y) × (d ≡ d')
count_determined o counts x y d d' e f = (one_counted x y (one_value e.0 f.0), one_value e.1 f.1)

-- the step: its answer and the state that it hands back
pub step_determined : (m : ℕ) (places : List ℕ) (v b p : ℕ) (x y : Stepped)
    → stepped_answer x ≡ state.step_of m places v b p → stepped_answer y ≡ state.step_of m places v b p → x ≡ y
step_determined m places v b p x y e f = one_stepped x y (one_value e f)

pub ratio_determined : (misses reads : ℕ) (x y : Option Float) → ratio_answer x ≡ ratio.ratio_of misses reads → ratio_answer y ≡ ratio.ratio_of misses reads → x ≡ y
ratio_determined misses reads x y e f = one_ratio x y (one_value e f)
