-- How every run goes: a header, a gate, and then events to the end. A refusal before the first event leaves the areas untouched, one of an event leaves them cleared.
-- P is a position in what is read, L the place of a refusal, H a header, E an event, T what a finished run tells, A the lent areas.
use Rattle.std.specs.Prelude.{ℕ, List}
use Rattle.trace.specs.Reading.{Found, Given, Refused}
use Rattle.pass.specs.Outcome as outcome
use Rattle.pass.specs.Outcome.{Answer, Outcome, refused}

-- between the header and the events: the run goes on, or it is refused
pub data Gate (L : Type 0) : Type 0 where
  Open : Gate L
  Shut : (number : ℕ) (place : L) → Gate L

-- what makes a run: the header with the position after it, what is tested then, the events from there, what is told of them, and what they leave in the areas; and the areas after a refused event
pub record Frame (P L H E T A : Type 0) : Type 0 where
  pub header : Found P L H
  pub gate : H → A → Gate L
  pub events : H → P → Found P L (List E)
  pub told : H → List E → T
  pub left : H → List E → A → A
  pub cleared : H → A → A

module _ {P L E : Type 0} where
  -- what is answered after events, by what is told of them
  abbrev pub answered : {T : Type 0} → (List E → T) → Found P L (List E) → Answer T L
  answered told (Given es at) = outcome.Done (told es)
  answered told (Refused number place) = outcome.Refused number place

  -- what is left after them: what they leave, or something else where one was refused
  abbrev pub leaves : {X : Type 0} → (List E → X) → X → Found P L (List E) → X
  leaves left cleared (Given es at) = left es
  leaves left cleared (Refused number place) = cleared

module _ {P L H E T A : Type 0} (frame : Frame P L H E T A) (areas : A) where
  -- after the events
  abbrev pub ended : H → Found P L (List E) → Outcome T L A
  ended h x = record { answer = answered (frame.told h) x; areas = leaves (λ es. frame.left h es areas) (frame.cleared h areas) x }

  -- after the gate
  abbrev pub entered : H → P → Gate L → Outcome T L A
  entered h at Open = ended h (frame.events h at)
  entered h at (Shut number place) = refused number place areas

  -- after the header
  abbrev pub headed : Found P L H → Outcome T L A
  headed (Given h at) = entered h at (frame.gate h areas)
  headed (Refused number place) = refused number place areas

  -- the whole run
  unfoldable pub ran : Outcome T L A
  ran = headed frame.header
