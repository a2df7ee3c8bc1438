-- No two refusals share a number.
use Prim.Native.Nat.{ℕ}
use mathlib.Core.List.{List, [], ◌∷◌}
use lib.ListN.{get_or}
use mathlib.Core.Path.{◌≡◌, refl, sym, ap, ◌∙◌}
use Rattle.terms.specs.declared.Refusal.{Refusal}
use Rattle.terms.specs.declared.Refusal.TheVariants.{Cut, Form, Edition, Size, Volume, Priority, Room, Space, State, Large, Ratio}
use Rattle.terms.specs.Refusals.{number_of}

-- the refusals by their numbers; there is no refusal 0
refusals : List Refusal
refusals = Cut ∷ Cut ∷ Form ∷ Edition ∷ Size ∷ Volume ∷ Priority ∷ Room ∷ Space ∷ State ∷ Large ∷ Ratio ∷ []

refusal_of : ℕ → Refusal
refusal_of n = get_or refusals n Cut

back : (refusal : Refusal) → refusal_of (number_of refusal) ≡ refusal
unfolding refusal_of refusals
back Cut = refl
back Form = refl
back Edition = refl
back Size = refl
back Volume = refl
back Priority = refl
back Room = refl
back Space = refl
back State = refl
back Large = refl
back Ratio = refl

pub one_refusal : (x y : Refusal) → number_of x ≡ number_of y → x ≡ y
one_refusal x y e = sym (back x) ∙ ap refusal_of e ∙ back y
