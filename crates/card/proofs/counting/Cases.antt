-- What counting makes of a number: of an outcome's, and of one that is none.
use mathlib.Core.Path.{◌≡◌}
use mathlib.Core.Bool.{true, false}
use mathlib.Core.List.{[], ◌∷◌}
use Prim.Native.Nat.{ℕ, ◌≤◌, ◌<◌}
use native.Mathlib.Omega.{arith}
use lib.ListN.{get_or-eq_default}
use Rattle.std.proofs.lemmas.Bool.Decides.{nat_tests}
use Rattle.card.specs.declared.outcome.Outcome.{Outcome}
use Rattle.card.specs.declared.outcome.Outcome.TheVariants.{Up, Same, Down, HitBypass, Insert, MissBypass}
use Rattle.card.specs.Outcomes.{outcome_number}
use Rattle.card.specs.Counts.{is_hit, slot_of, counts_lent}

-- an outcome has a slot
pub slot_low : (o : Outcome) → slot_of (outcome_number o) < counts_lent
unfolding slot_of
slot_low Up = omega arith
slot_low Same = omega arith
slot_low Down = omega arith
slot_low HitBypass = omega arith
slot_low Insert = omega arith
slot_low MissBypass = omega arith

-- a number that is none of the six has no slot, and is no hit
pub slot_past : (n : ℕ) → 6 ≤ n → slot_of n ≡ counts_lent
unfolding slot_of
slot_past n past = get_or-eq_default (0 ∷ 1 ∷ 2 ∷ 3 ∷ 4 ∷ 5 ∷ []) counts_lent past

pub hit_past : (n : ℕ) → 6 ≤ n → is_hit n ≡ false
unfolding is_hit
hit_past n past = get_or-eq_default (true ∷ true ∷ true ∷ true ∷ false ∷ false ∷ []) false past

pub ruleset slots = (nat_tests, slot_low, slot_past)
