-- Laws of a field that is written: its value is tested against its range, and has a spelling.
use mathlib.Core.Path.{◌≡◌}
use mathlib.Core.Bool.{true}
use Prim.Native.Nat.{ℕ, zero, suc, ◌^◌, ◌<◌}
use native.Mathlib.Omega.{arith}
use Rattle.terms.specs.declared.range.Range.{Range}
use Rattle.terms.specs.Ranges.{in_range, edition, size, volume, block, priority}
use Rattle.terms.specs.Reads.{read_of}
use Rattle.trace.specs.Spelling.{read_values}
use Rattle.trace.specs.Bounds.{number_limit, Spelled}
use Rattle.terms.proofs.Ranges.{bounds}
use Rattle.trace.proofs.Fields.{block_any}

-- a value in its range has a spelling
pub in_range_low : (range : Range) (v : ℕ) → range.largest < number_limit → in_range range v ≡ true → v < number_limit
in_range_low range v h e = omega (arith, bounds range v e)

-- each range of the format has spellings
pub ranges_low : (edition.largest < number_limit) × (size.largest < number_limit) × (volume.largest < number_limit) × (block.largest < number_limit) × (priority.largest < number_limit)
unfolding edition size volume block priority number_limit
ranges_low = omega arith

-- a block of 32 bits has a spelling
pub word_low : (b : ℕ) → b < 2 ^ 32 → b < number_limit
unfolding number_limit
word_low b h = omega arith

-- and is one
pub word_block : (b : ℕ) → b < 2 ^ 32 → in_range block b ≡ true
word_block b h = block_any b (word_low b h)

-- an edition, a size, a volume and a priority in its range have one
pub edition_low : (v : ℕ) → in_range edition v ≡ true → v < number_limit
edition_low v e = in_range_low edition v ranges_low.0 e

pub size_low : (v : ℕ) → in_range size v ≡ true → v < number_limit
size_low v e = in_range_low size v ranges_low.1 e

pub volume_low : (v : ℕ) → in_range volume v ≡ true → v < number_limit
volume_low v e = in_range_low volume v ranges_low.2 e

pub priority_low : (v : ℕ) → in_range priority v ≡ true → v < number_limit
priority_low v e = in_range_low priority v ranges_low.4 e

-- so have the numbers of a record
pub read_spelled : (v b p : ℕ) → in_range volume v ≡ true → b < 2 ^ 32 → in_range priority p ≡ true → Spelled (read_values (read_of v b p))
read_spelled v b p e l f zero d h = volume_low v e
read_spelled v b p e l f (suc zero) d h = word_low b l
read_spelled v b p e l f (suc (suc zero)) d h = priority_low p f
read_spelled v b p e l f (suc (suc (suc k))) d h = absurd (omega (arith, h))

-- for the writer of a header
pub ruleset header_low = (edition_low, size_low)
