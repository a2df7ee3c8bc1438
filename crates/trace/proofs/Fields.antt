-- Laws of one field: a number that is read from a place on, tested, and gone on from. They hold of every range and of whatever follows.
use mathlib.Core.Path.{◌≡◌, subst}
use mathlib.Core.List.{List}
use mathlib.Core.Bool.{true}
use Prim.Native.Nat.{ℕ, suc, ◌+◌, ◌-◌, ◌≤◌, ◌<◌}
use native.Mathlib.Omega.{arith}
use lib.ListN.{length, drop, length-drop}
use borrow.Author.Tests.{le-leb}
use Rattle.terms.specs.declared.range.Range.{Range}
use Rattle.terms.specs.Ranges.{in_range, block}
use Rattle.trace.specs.Number.{Value, number_at, top_byte, bytes_before}
use Rattle.trace.specs.Reading.{Reading, Given, and_then, field}
use Rattle.trace.specs.Bounds.{number_limit}
use Rattle.trace.proofs.number.Laws.{OfValue, Bounded, numeral_bounded}

-- a number that was read at a place has no more bytes than may be, and than there are
abbrev pub NumberIn : List ℕ → ℕ → ℕ → ℕ → Type 0
NumberIn s at v n = Bounded number_limit (suc bytes_before) (length s - at) v n

pub number_in : (s : List ℕ) (at : ℕ) → OfValue (NumberIn s at) (number_at s at)
unfolding number_limit
number_in s at =
    subst (λ (room : ℕ). OfValue (Bounded number_limit (suc bytes_before) room) (number_at s at)) (length-drop at s) (numeral_bounded top_byte bytes_before (drop at s))

-- so it ends within the bytes
pub number_end : (s : List ℕ) (at v n : ℕ) → number_at s at ≡ Value v n → at + n ≤ length s
number_end s at v n e = let h = subst (OfValue (NumberIn s at)) e (number_in s at) in omega arith

-- every number is a block
pub block_any : (v : ℕ) → v < number_limit → in_range block v ≡ true
unfolding block number_limit
block_any v h = rw (le-leb 0 v (omega arith), le-leb v 4294967295 (omega arith))

-- a field is read, and then what follows
pub field_then : {A : Type 0} (range : Range) (s : List ℕ) (at : ℕ) (next : ℕ → ℕ → Reading A)
    → field range s at next ≡ and_then (field range s at (λ v end. Given v end)) next
field_then range s at next = grind arith
