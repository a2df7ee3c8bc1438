-- What the calls from other languages tell: the refusal's number, 0 where there is none, and the values that go into the caller's numbers.
use Rattle.std.specs.Prelude.{ℕ, Option, None, Some, Result, Ok, Err, ◌≡◌, cond, List, [], ◌∷◌, ◌++◌, leb, length, take, drop}
use Rattle.terms.specs.declared.Refusal.TheVariants.{Room}
use Rattle.terms.specs.Refusals.{number_of}
use Rattle.terms.specs.Ranges.{size}
use Rattle.trace.specs.Reading as reading
use Rattle.trace.specs.Writing as writing
use Rattle.card.specs.State as state
use Rattle.card.specs.Counts as counts
use Rattle.card.specs.Counts.{is_hit}
use Rattle.pass.specs.Outcome as outcome
use Rattle.pass.specs.declared.answers.Report.{Report}
use Rattle.sheet_text.specs.Sheet.{shown}
use Rattle.salvage.specs.Answers as salvage
use Rattle.supharoek.specs.declared.told.Refused.{Refused}

pub record Told : Type 0 where
  pub number : ℕ
  pub values : List ℕ

abbrev pub tells : (number : ℕ) (values : List ℕ) → Told
tells number values = record { number = number; values = values }

-- a place, where there is one
abbrev pub place_told : Option ℕ → List ℕ
place_told (Some place) = place ∷ []
place_told None = []

-- a call tells it: the number is its answer, and the values stand at the front of the caller's numbers, as far as they fit
abbrev pub Tells : Told → (answer : ℕ) (before after : List ℕ) → Type 0
Tells t answer before after = (answer ≡ t.number) × (after ≡ shown t.values before)

-- what the code found: values, or a refusal with its place, if it has one
abbrev pub told_of : Result (List ℕ) Refused → Told
told_of (Ok values) = tells 0 values
told_of (Err refused) = tells (number_of refused.refusal) (place_told refused.place)

-- a header: its edition, its size and its length; or the place of the refusal
abbrev pub header_told : reading.Reading reading.Header → Told
header_told (reading.Given h end) = tells 0 (h.edition ∷ h.size ∷ end ∷ [])
header_told (reading.Refused number place) = tells number (place ∷ [])

-- a record: volume, block, priority and its length; or the place
abbrev pub record_told : reading.Reading reading.Placed → Told
record_told (reading.Given r end) = tells 0 (r.read.volume ∷ r.read.block ∷ r.read.priority ∷ end ∷ [])
record_told (reading.Refused number place) = tells number (place ∷ [])

-- a header or a record written: its length
abbrev pub writing_told : writing.Writing → Told
writing_told (writing.Length n) = tells 0 (n ∷ [])
writing_told (writing.Refused number) = tells number []

-- a salvage: the bytes and the entries written; or the place, where the refusal has one
abbrev pub salvage_told : salvage.Salvaging → Told
salvage_told (salvage.Done bytes entries) = tells 0 (bytes ∷ entries ∷ [])
salvage_told (salvage.Refused number place) = tells number (place ∷ [])
salvage_told (salvage.Unplaced number) = tells number []

-- a run: the reads and the two peaks; or the place
abbrev pub run_told : outcome.Answer Report ℕ → Told
run_told (outcome.Done report) = tells 0 (report.reads ∷ report.total ∷ report.one ∷ [])
run_told (outcome.Refused number place) = tells number (place ∷ [])

-- a step: the outcome, and 1 for a hit or 0 for a miss
abbrev pub step_told : state.Answer → Told
step_told (state.Outcome o) = tells 0 (o ∷ cond (is_hit o) 1 0 ∷ [])
step_told (state.Refused number) = tells number []

-- too little room, which has the place 0
abbrev pub no_room : Told
no_room = tells (number_of Room) (0 ∷ [])

-- an outcome counted: how many were added; it is refused for too little room alone
abbrev pub count_told : counts.Counting → Told
count_told (counts.Added n) = tells 0 (n ∷ [])
count_told (counts.Refused number) = tells number (0 ∷ [])

-- a step's places are lent: fewer than those of a state are refused, and what lies past them is kept
abbrev pub places_lent : ℕ
places_lent = size.largest

unfoldable pub step_call : (size : ℕ) (places : List ℕ) (v b p : ℕ) → Told
step_call size places v b p =
    cond (leb places_lent (length places)) (step_told (state.step_of size (take places_lent places) v b p).answer) no_room

unfoldable pub places_after : (size : ℕ) (places : List ℕ) (v b p : ℕ) → List ℕ
places_after size places v b p =
    cond (leb places_lent (length places)) ((state.step_of size (take places_lent places) v b p).places ++ drop places_lent places) places
