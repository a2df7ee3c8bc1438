-- The step for one size: its state, its tests and its answer.
use Rattle.std.specs.Prelude.{ℕ, Bool, true, ◌&&◌, ◌||◌, cond, List, [], ◌∷◌, ◌++◌, leb, eqb, take, drop}
use Rattle.std.specs.List.{list_all}
use Rattle.terms.specs.declared.Refusal.{Refusal}
use Rattle.terms.specs.declared.Refusal.TheVariants.{State}
use Rattle.terms.specs.Refusals.{number_of}
use Rattle.terms.specs.Ranges.{in_range, size, volume, block, priority}
use Rattle.terms.specs.Reads.{read_of}
use Rattle.card.specs.Rule.{key_of, place, outcome_on, after_read}
use Rattle.card.specs.Run.{block_read, asked}

-- a place holds at most a number
abbrev pub at_most : ℕ → ℕ → Bool
at_most most x = leb x most

-- a place is empty
abbrev pub is_empty : ℕ → Bool
is_empty x = eqb x 0

-- the largest key: that of the largest volume and the largest block
unfoldable pub largest_key : ℕ
largest_key = key_of volume.largest block.largest

-- a place holds a key, or is empty
abbrev pub is_key : ℕ → Bool
is_key x = at_most largest_key x

-- no block is in two places
abbrev pub apart : List ℕ → Bool
apart [] = true
apart (x ∷ xs) = (is_empty x || eqb (place xs x) 0) && apart xs

-- a size in its range, no full place after it, no place over the largest key, and no block in two places
unfoldable pub is_state : ℕ → List ℕ → Bool
is_state m places = in_range size m && (list_all is_empty (drop m places) && (list_all is_key places && apart places))

-- the outcome, or the refusal's number
pub data Answer : Type 0 where
  Outcome : ℕ → Answer
  Refused : ℕ → Answer

-- the answer and the state after it
pub record Stepped : Type 0 where
  pub answer : Answer
  pub size : ℕ
  pub places : List ℕ

-- the state as given
abbrev pub refusing : Refusal → ℕ → List ℕ → Stepped
refusing refusal m places = record { answer = Refused (number_of refusal); size = m; places = places }

-- the read of the block with key x that asks for place p: the card is the first m places
abbrev pub stepping : ℕ → List ℕ → (x p : ℕ) → Stepped
stepping m places x p =
    record { answer = Outcome (outcome_on (take m places) x p); size = m; places = after_read (take m places) x p ++ drop m places }

-- the tests in their order: state, volume, priority
unfoldable pub step_of : ℕ → List ℕ → (v b p : ℕ) → Stepped
step_of m places v b p =
    cond (is_state m places)
    (cond (in_range volume v)
    (cond (in_range priority p)
    (stepping m places (block_read (read_of v b p)) (asked m (read_of v b p)))
    (refusing priority.refusal m places))
    (refusing volume.refusal m places))
    (refusing State m places)
