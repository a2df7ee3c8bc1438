-- The key that the code works out for a read is that of its block.
use mathlib.Core.Path.{◌≡◌, sym, ap₂, ◌∙◌}
use mathlib.Core.Bool.{true}
use Prim.Native.Nat.{ℕ, suc, ◌%◌, ◌<◌}
use native.Mathlib.Nat.{mod-eq_of_lt}
use native.Mathlib.Omega.{arith}
use Rattle.terms.specs.declared.range.Range.{Range}
use Rattle.terms.specs.Ranges.{in_range, volume, block}
use Rattle.terms.specs.Reads.{Read, read_of, ReadOk}
use Rattle.terms.proofs.Ranges.{bounds}
use Rattle.card.specs.Rule.{key_of}
use Rattle.card.specs.Run.{block_read}
use Rattle.card.proofs.Inclusion.{key_some}

in_range_lem : (range : Range) (v : ℕ) → in_range range v ≡ true → v % suc range.largest ≡ v
in_range_lem range v h = mod-eq_of_lt (omega (arith, bounds range v h))

pub key_in_range : (v b : ℕ) → in_range volume v ≡ true → in_range block b ≡ true → key_of (v % suc volume.largest) (b % suc block.largest) ≡ key_of v b
key_in_range v b h g = ap₂ key_of (in_range_lem volume v h) (in_range_lem block b g)

pub key_same : (r : Read) (key : ℕ) → ReadOk r → key ≡ key_of (r.volume % suc volume.largest) (r.block % suc block.largest) → block_read r ≡ key
key_same r key ok e = sym (e ∙ key_in_range r.volume r.block ok.0 ok.1)

pub key_positive : (v b key : ℕ) → key ≡ key_of v b → 0 < key
key_positive v b key e = rw e (key_some (read_of v b 0))
