-- The numbers that are kept beside the areas: the total of stretches, and the two peaks so far.
use Rattle.std.specs.Prelude.{ℕ, ◌≡◌, List}
use Rattle.terms.specs.Reads.{Read}
use Rattle.card.specs.Stretches.{total, peak_total, peak_of_one}
use Rattle.engine.specs.declared.reads.Sums.{Sums}

-- what they are after reads
pub record Totals (n : ℕ) (rs : List Read) (sums : Sums) : Type 0 where
  pub now_is : sums.now ≡ total n rs
  pub most_is : sums.most ≡ peak_total n rs
  pub one_is : sums.one ≡ peak_of_one n rs
