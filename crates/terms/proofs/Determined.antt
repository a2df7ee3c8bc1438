-- The promises leave one answer: any two outcomes that a contract allows for the same input coincide.
use Prim.Native.Nat.{ℕ}
use mathlib.Core.Path.{◌≡◌, sym, ◌∙◌}
use mathlib.Core.Bool.{Bool, cond}
use Rattle.std.proofs.Common.{Result, Ok, Err}
use Rattle.terms.specs.declared.Refusal.{Refusal}
use Rattle.terms.specs.Refusals.{number_of}
use Rattle.terms.specs.declared.range.Range.{Range}
use Rattle.terms.specs.Ranges.{in_range}

-- an equation leaves one value
pub one_value : {A : Type 0} {x y z : A} → x ≡ z → y ≡ z → x ≡ y
one_value e f = e ∙ sym f

-- ---- the contracts

pub refusal_number_determined : (refusal : Refusal) (x y : ℕ) → x ≡ number_of refusal → y ≡ number_of refusal → x ≡ y
refusal_number_determined refusal x y e f = one_value e f

-- each test of a range
pub range_determined : (range : Range) (value : ℕ) (x y : Bool) → x ≡ in_range range value → y ≡ in_range range value → x ≡ y
range_determined range value x y e f = one_value e f

-- each check of one
pub check_determined : (range : Range) (value : ℕ) (x y : Result Unit Refusal)
    → x ≡ cond (in_range range value) (Ok tt) (Err range.refusal) → y ≡ cond (in_range range value) (Ok tt) (Err range.refusal) → x ≡ y
check_determined range value x y e f = one_value e f

-- each range that is handed out: one of the five, or one up to another largest value
pub range_given_determined : (promised x y : Range) → x ≡ promised → y ≡ promised → x ≡ y
range_given_determined promised x y e f = one_value e f
