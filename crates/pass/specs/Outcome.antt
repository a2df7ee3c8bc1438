-- What a run answers and leaves: T is what a finished one tells, L the place of a refusal, A the lent areas.
use Rattle.std.specs.Prelude.{ℕ}

-- what it tells, or the refusal's number and its place
pub data Answer (T L : Type 0) : Type 0 where
  Done : T → Answer T L
  Refused : (number : ℕ) (place : L) → Answer T L

-- the answer, and the areas after it
pub record Outcome (T L A : Type 0) : Type 0 where
  pub answer : Answer T L
  pub areas : A

module _ {T L A : Type 0} where
  -- what is told, with the areas as they were left
  abbrev pub done : T → A → Outcome T L A
  done told areas = record { answer = Done told; areas = areas }

  -- a refusal, with the areas as they were left
  abbrev pub refused : (number : ℕ) (place : L) → A → Outcome T L A
  refused number place areas = record { answer = Refused number place; areas = areas }
