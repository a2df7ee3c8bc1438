-- Laws of sums that give counts.
use mathlib.Core.Path.{◌≡◌}
use Prim.Native.Nat.{ℕ, zero, suc, ◌+◌, ◌≤◌, ◌<◌}
use native.Mathlib.Omega.{arith}
use Rattle.counts.specs.Columns.{columns}
use Rattle.counts.specs.Tallies.{SumsGive}

-- equal sums give equal counts
pub sums_same : {s t c d : ℕ → ℕ} {reads : ℕ} → ((k : ℕ) → k < columns → t k ≡ s k) → ((o : ℕ) → o < columns → d o ≡ c o) → SumsGive s reads c → SumsGive t reads d
sums_same e f gives =
    omega (
      arith,
      e 0 (omega arith),
      e 1 (omega arith),
      e 2 (omega arith),
      e 3 (omega arith),
      e 4 (omega arith),
      e 5 (omega arith),
      f 0 (omega arith),
      f 1 (omega arith),
      f 2 (omega arith),
      f 3 (omega arith),
      f 4 (omega arith),
      f 5 (omega arith),
    )

-- both together give the counts of both
pub sums_add : {s t c d : ℕ → ℕ} {reads more : ℕ} → SumsGive s reads c → SumsGive t more d → SumsGive (λ k. s k + t k) (reads + more) (λ o. c o + d o)
sums_add gives more = omega arith

-- no sum is more than the reads
pub sums_low : {s c : ℕ → ℕ} {reads : ℕ} → SumsGive s reads c → (k : ℕ) → k < columns → s k ≤ reads
sums_low gives zero h = omega arith
sums_low gives (suc zero) h = omega arith
sums_low gives (suc (suc zero)) h = omega arith
sums_low gives (suc (suc (suc zero))) h = omega arith
sums_low gives (suc (suc (suc (suc zero)))) h = omega arith
sums_low gives (suc (suc (suc (suc (suc zero))))) h = omega arith
sums_low gives (suc (suc (suc (suc (suc (suc k)))))) h = absurd (omega arith)
