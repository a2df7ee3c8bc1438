-- Numbers as text: decimal digits in ASCII, with no zero in front.
use Rattle.std.specs.Prelude.{ℕ, zero, suc, ◌+◌, ◌-◌, ◌*◌, ◌/◌, ◌%◌, cond, List, [], ◌∷◌, ◌++◌, ltb}

-- the digit of a number below ten
abbrev pub digit : ℕ → ℕ
digit d = 48 + d

-- the digits of a number, the first one first; it has fewer than `most` + 2
unfoldable pub digits : (most n : ℕ) → List ℕ
digits zero n = digit n ∷ []
digits (suc most) n = cond (ltb n 10) (digit n ∷ []) (digits most (n / 10) ++ (digit (n % 10) ∷ []))

-- the spelling of a number: a number has no more digits than itself and one
abbrev pub decimal : ℕ → List ℕ
decimal n = digits n n

-- the number that digits spell, after the one that those before them spell
abbrev pub value_after : ℕ → List ℕ → ℕ
value_after v [] = v
value_after v (d ∷ ds) = value_after (10 * v + (d - 48)) ds
