-- No two outcomes share a number, and the numbers are those below six.
use mathlib.Core.Path.{◌≡◌, refl, sym, ap, ◌∙◌}
use mathlib.Core.List.{[], ◌∷◌}
use Prim.Native.Nat.{ℕ, ◌<◌}
use native.Mathlib.Omega.{arith}
use lib.ListN.{get_or}
use Rattle.card.specs.declared.outcome.Outcome.{Outcome}
use Rattle.card.specs.declared.outcome.Outcome.TheVariants.{Up, Same, Down, HitBypass, Insert, MissBypass}
use Rattle.card.specs.Outcomes.{outcome_number}

-- the outcomes by their numbers
outcome_at : ℕ → Outcome
outcome_at n = get_or (Up ∷ Same ∷ Down ∷ HitBypass ∷ Insert ∷ MissBypass ∷ []) n Up

back : (o : Outcome) → outcome_at (outcome_number o) ≡ o
unfolding outcome_at
back Up = refl
back Same = refl
back Down = refl
back HitBypass = refl
back Insert = refl
back MissBypass = refl

pub one_outcome : (x y : Outcome) → outcome_number x ≡ outcome_number y → x ≡ y
one_outcome x y e = sym (back x) ∙ ap outcome_at e ∙ back y

pub number_low : (o : Outcome) → outcome_number o < 6
number_low Up = omega arith
number_low Same = omega arith
number_low Down = omega arith
number_low HitBypass = omega arith
number_low Insert = omega arith
number_low MissBypass = omega arith
