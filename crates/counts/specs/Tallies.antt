-- What the counts area holds until the end: for each size a tally in each column, and the sums of these up to a size give its counts.
use Rattle.std.specs.Prelude.{ℕ, zero, suc, ◌+◌, ◌≤◌, ◌≡◌, cond, List, eqb, length, get_or}
use Rattle.terms.specs.Reads.{Read}
use Rattle.card.specs.Rule.{outcome}
use Rattle.card.specs.Run.{count}
use Rattle.counts.specs.Columns.{cell_of}

-- the sum of a column over sizes 1 to m
abbrev pub up_to : List ℕ → (k m : ℕ) → ℕ
up_to counts k zero = 0
up_to counts k (suc m) = up_to counts k m + get_or counts (cell_of m k) 0

-- sums of the columns give counts of so many reads
pub record SumsGive (sum : ℕ → ℕ) (reads : ℕ) (c : ℕ → ℕ) : Type 0 where
  pub ups : sum 1 + c 0 ≡ sum 0 + sum 5
  pub sames : sum 2 + c 1 ≡ sum 1
  pub downs : sum 2 ≡ c 2
  pub hit_bypasses : sum 5 + c 3 ≡ sum 3
  pub inserts : sum 0 + c 4 ≡ sum 4
  pub miss_bypasses : sum 4 + sum 3 + c 5 ≡ reads

-- those of the tallies up to a size give its counts
abbrev pub TallySums : (counts : List ℕ) (m reads : ℕ) (c : ℕ → ℕ) → Type 0
TallySums counts m reads c = SumsGive (λ k. up_to counts k m) reads c

-- at every size up to n
abbrev pub Tallies : (n reads : ℕ) → (ℕ → ℕ → ℕ) → List ℕ → Type 0
Tallies n reads c counts = (m : ℕ) → 1 ≤ m → m ≤ n → TallySums counts m reads (c m)

-- the tallies after reads give the counts of these reads
abbrev pub Tallied : ℕ → List Read → List ℕ → Type 0
Tallied n rs counts = Tallies n (length rs) (λ m o. count m o rs) counts

-- 1 where an outcome is the given one
abbrev pub is_outcome : (o m j p : ℕ) → ℕ
is_outcome o m j p = cond (eqb (outcome m j p) o) 1 0
