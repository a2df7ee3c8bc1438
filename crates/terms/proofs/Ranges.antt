-- What the test of a range says of a number.
use Prim.Native.Nat.{ℕ, ◌≤◌}
use mathlib.Core.Path.{◌≡◌, refl}
use mathlib.Core.Bool.{Bool, true, false, ◌&&◌}
use lib.Dec.{leb}
use borrow.Author.Tests.{leb-true}
use Rattle.terms.specs.declared.range.Range.{Range}
use Rattle.terms.specs.Ranges.{in_range, up_to, size, size_up_to, volume, volume_up_to, priority, priority_up_to}

-- a conjunction and its two parts
pub and_both : (s t : Bool) → s && t ≡ true → (s ≡ true) × (t ≡ true)
and_both true t e = (refl, e)
and_both false t e = (e, cc)

-- a number that passes lies between the two ends
pub bounds : (range : Range) (v : ℕ) → in_range range v ≡ true → (range.least ≤ v) × (v ≤ range.largest)
bounds range v e =
    let both = and_both (leb range.least v) (leb v range.largest) e in
    (leb-true range.least v both.0, leb-true v range.largest both.1)

-- the ranges up to a largest value are those of the library with another one

pub size_to : (most : ℕ) → up_to size most ≡ size_up_to most
unfolding size
size_to most = refl

pub volume_to : (most : ℕ) → up_to volume most ≡ volume_up_to most
unfolding volume
volume_to most = refl

pub priority_to : (most : ℕ) → up_to priority most ≡ priority_up_to most
unfolding priority
priority_to most = refl
