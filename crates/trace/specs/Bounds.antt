-- Bounds that the crate's own functions ask of each other.
use Rattle.std.specs.Prelude.{ℕ, zero, suc, ◌+◌, ◌*◌, ◌^◌, ◌<◌, List, All}
use Rattle.trace.specs.Number.{Numeral, Value, Fault, top_byte, bytes_before}

-- numbers with at most `left` bytes before the last are below this
abbrev pub limit : (top left : ℕ) → ℕ
limit top zero = top + 1
limit top (suc left) = 128 * limit top left

-- each number of the format is below this
unfoldable pub number_limit : ℕ
number_limit = limit top_byte bytes_before

-- each has a spelling
abbrev pub Spelled : List ℕ → Type 0
Spelled vs = All (λ v. v < number_limit) vs

-- one byte more fits 64 bits
abbrev pub Small : Numeral → Type 0
Small (Value v n) = (v < 2 ^ 56) × (n < 2 ^ 32)
Small (Fault number) = Unit
