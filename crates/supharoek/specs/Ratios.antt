-- What the call for the miss ratio tells: the refusal's number, 0 where there is none, and the caller's number after it.
use Rattle.std.specs.Prelude.{ℕ, Float}
use Rattle.card.specs.Ratio.{Division, Quotient, Refused}

abbrev pub ratio_number : Division → ℕ
ratio_number (Quotient x) = 0
ratio_number (Refused number) = number

-- the ratio; the number as it was where there is none
abbrev pub ratio_after : Division → Float → Float
ratio_after (Quotient x) before = x
ratio_after (Refused number) before = before
