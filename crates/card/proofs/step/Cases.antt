-- What the step knows once its tests have passed: that the size is in its range, the key of the block, and the place that is asked for.
use mathlib.Core.Path.{◌≡◌}
use mathlib.Core.Bool.{true}
use mathlib.Core.List.{List}
use Prim.Native.Nat.{ℕ, ◌^◌, ◌≤◌, ◌<◌}
use native.Mathlib.Omega.{arith}
use Rattle.std.proofs.lemmas.Bool.Decides.{nat_tests}
use Rattle.terms.specs.Ranges.{in_range, size, block}
use Rattle.terms.proofs.Ranges.{and_both, bounds}
use Rattle.card.specs.State.{is_state}
use Rattle.card.proofs.Asked.{asked_read}
use Rattle.card.proofs.ReadKeys.{key_in_range}

pub size_low : (m : ℕ) (places : List ℕ) → is_state m places ≡ true → m ≤ size.largest
unfolding is_state
size_low m places e = (bounds size m (and_both (in_range size m) _ e).0).1

-- a number of 32 bits is a block
pub block_in_range : (b : ℕ) → b < 2 ^ 32 → in_range block b ≡ true
unfolding block
block_in_range b h = grind (arith, nat_tests)

pub ruleset tested = (size_low, block_in_range, key_in_range, asked_read)
