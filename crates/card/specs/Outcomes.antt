-- The numbers of the outcomes.
use Rattle.std.specs.Prelude.{ℕ, ◌≡◌, ◌≤◌, Result, Ok, Err}
use Rattle.card.specs.declared.outcome.Outcome.{Outcome}
use Rattle.card.specs.declared.outcome.Outcome.TheVariants.{Up, Same, Down, HitBypass, Insert, MissBypass}
use Rattle.card.specs.declared.outcome.NoOutcome.{NoOutcome}

-- the number of an outcome
abbrev pub outcome_number : Outcome → ℕ
outcome_number Up = 0
outcome_number Same = 1
outcome_number Down = 2
outcome_number HitBypass = 3
outcome_number Insert = 4
outcome_number MissBypass = 5

-- the outcome of a number; a number that is past the last outcome's has none, and is told
abbrev pub Numbered : ℕ → Result Outcome NoOutcome → Type 0
Numbered number (Ok outcome) = number ≡ outcome_number outcome
Numbered number (Err none) = (none.0 ≡ number) × (6 ≤ number)
