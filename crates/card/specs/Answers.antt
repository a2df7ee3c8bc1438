-- What each answer of the code says, in the table's numbers and the rule's values.
use Rattle.std.specs.Prelude.{ℕ, Option, None, Some, Result, Ok, Err, Float}
use Rattle.terms.specs.declared.Refusal.{Refusal}
use Rattle.terms.specs.declared.Refusal.TheVariants as the_refusal
use Rattle.terms.specs.Refusals.{number_of}
use Rattle.card.specs.Outcomes.{outcome_number}
use Rattle.card.specs.State as state
use Rattle.card.specs.Counts as counts
use Rattle.card.specs.Ratio as ratio
use Rattle.card.specs.declared.outcome.Outcome.{Outcome}
use Rattle.card.specs.declared.step.Card.{Card}
use Rattle.card.specs.declared.step.Stepped.{Stepped}

-- the outcome or the refusal of a step
abbrev pub answer_of : Result Outcome Refusal → state.Answer
answer_of (Ok outcome) = state.Outcome (outcome_number outcome)
answer_of (Err refusal) = state.Refused (number_of refusal)

-- the answer of a step and the card after it
abbrev pub told : Result Outcome Refusal → Card → state.Stepped
told answer card = record { answer = answer_of answer; size = card.size; places = card.places }

-- the two as the step answers them
abbrev pub stepped_answer : Stepped → state.Stepped
stepped_answer s = told s.answer s.card

-- the answer of counting an outcome
abbrev pub counted_answer : Result ℕ Refusal → counts.Counting
counted_answer (Ok n) = counts.Added n
counted_answer (Err refusal) = counts.Refused (number_of refusal)

-- the answer of the miss ratio
abbrev pub ratio_answer : Option Float → ratio.Division
ratio_answer (Some x) = ratio.Quotient x
ratio_answer None = ratio.Refused (number_of the_refusal.Ratio)
