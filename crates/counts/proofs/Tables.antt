-- The counts of sizes in turn, cell by cell.
use mathlib.Core.Path.{◌≡◌, refl, sym, ap, ◌∙◌}
use mathlib.Core.List.{List}
use Prim.Native.Nat.{ℕ, zero, suc, ◌+◌, ◌<◌}
use native.Mathlib.Omega.{arith}
use lib.ListN.{length, get_or, length-append, get_or-append}
use lib.Seq.{get_or-append-add}
use Rattle.terms.specs.Reads.{Read}
use Rattle.card.specs.Run.{count}
use Rattle.card.proofs.Tests.{by_lt}
use Rattle.counts.specs.Columns.{columns, counts_length, cell_of, row, table, counts_of}

row_at : (k : ℕ) (c : ℕ → ℕ) (o : ℕ) → o < k → get_or (row k c) o 0 ≡ c o
row_at zero c o h = absurd (omega arith)
row_at (suc k) c zero h = refl
row_at (suc k) c (suc o) h = row_at k (λ i. c (suc i)) o (omega arith)

module _ (c : ℕ → ℕ → ℕ) where
  pub table_length : (n : ℕ) → length (table n c) ≡ counts_length n
  unfolding table
  table_length zero = refl
  table_length (suc n) = omega (arith, length-append (table n c) (row columns (c (suc n))), table_length n)

  -- a size's counts stand after those of the sizes below it
  pub table_at : (n m o : ℕ) → m < n → o < columns → get_or (table n c) (cell_of m o) 0 ≡ c (suc m) o
  unfolding table
  table_at zero m o h g = absurd (omega arith)
  table_at (suc n) m o h g =
      by_lt m n
      (λ l. let inside : cell_of m o < length (table n c) = omega (arith, table_length n) in
      get_or-append (table n c) (row columns (c (suc n))) 0 (cell_of m o) inside ∙ table_at n m o l g)
      (λ l. let last : m ≡ n = omega arith in
      let at : cell_of m o ≡ length (table n c) + o = omega (arith, table_length n) in
      ap (λ (i : ℕ). get_or (table (suc n) c) i 0) at ∙ get_or-append-add (table n c) (row columns (c (suc n))) o 0 ∙ row_at columns (c (suc n)) o g ∙ ap (λ (k : ℕ). c (suc k) o) (sym last))

-- so with the counts of reads
pub counts_length_lem : (n : ℕ) (rs : List Read) → length (counts_of n rs) ≡ counts_length n
counts_length_lem n rs = table_length (λ m o. count m o rs) n

pub count_at : (n : ℕ) (rs : List Read) (m o : ℕ) → m < n → o < columns → get_or (counts_of n rs) (cell_of m o) 0 ≡ count (suc m) o rs
count_at n rs = table_at (λ m o. count m o rs) n
