-- The miss ratio.
use Rattle.std.specs.Prelude.{ℕ, cond, leb, eqb, pos, Float}
use Rattle.std.specs.Float.{binary64}
use Rattle.std.specs.Float.Ieee.{div, of_int}
use Rattle.terms.specs.declared.Refusal.TheVariants.{Ratio}
use Rattle.terms.specs.Refusals.{number_of}

-- the ratio, or the refusal's number
pub data Division : Type 0 where
  Quotient : Float → Division
  Refused : ℕ → Division

-- up to here an f64 holds every number exactly
abbrev pub largest_exact : ℕ
largest_exact = 9007199254740992

-- one f64 division of the two, both converted without loss; none where reads are 0, misses over reads, or reads too many
unfoldable pub ratio_of : (misses reads : ℕ) → Division
ratio_of misses reads =
    cond (eqb reads 0) (Refused (number_of Ratio))
    (cond (leb misses reads)
    (cond (leb reads largest_exact) (Quotient (div binary64 (of_int binary64 (pos misses)) (of_int binary64 (pos reads)))) (Refused (number_of Ratio)))
    (Refused (number_of Ratio)))
