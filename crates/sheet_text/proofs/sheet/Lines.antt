-- Laws of the lines of a sheet: each is put in part by part.
use mathlib.Core.Path.{◌≡◌, refl, ap, ap₂}
use mathlib.Core.List.{List, ◌++◌}
use native.Mathlib.Numerals.{add-one}
use native.Mathlib.Omega.{arith}
use Prim.Native.Nat.{ℕ, zero, suc, ◌+◌, ◌*◌, ◌<◌, ◌≤◌}
use lib.ListN.{length}
use Rattle.std.specs.Prelude.{slice_range, slice_index}
use Rattle.std.proofs.lemmas.Grind.{common_steps}
use Rattle.counts.specs.Columns.{columns, counts_length}
use Rattle.sheet_text.specs.declared.text.Text.{Text}
use Rattle.sheet_text.specs.Sheet.{spaced, cell, spaced_row, line_of, lines_of}
use Rattle.sheet_text.specs.Writing.{Takes}
use Rattle.sheet_text.proofs.Puts.{takes_none, takes_then}

-- ---- the counts of a line

pub takes_no_counts : {a : Text} (counts : ℕ → ℕ) → Takes a a (spaced_row 0 counts)
unfolding spaced_row
takes_no_counts counts = takes_none

pub takes_count : {a b c : Text} (counts : ℕ → ℕ) (k : ℕ) → Takes a b (spaced_row k counts) → Takes b c (spaced (counts k)) → Takes a c (spaced_row (k + 1) counts)
unfolding spaced_row
takes_count counts k v w = rw add-one (takes_then v w)

-- ---- lines with the same counts

row_same : (f g : ℕ → ℕ) (k : ℕ) → ((o : ℕ) → o < k → f o ≡ g o) → spaced_row k f ≡ spaced_row k g
unfolding spaced_row
row_same f g zero h = refl
row_same f g (suc k) h = ap₂ (λ (x y : List ℕ). x ++ y) (row_same f g k (λ o l. h o (omega arith))) (ap spaced (h k (omega arith)))

pub line_same : (f g : ℕ → ℕ) (m : ℕ) → ((o : ℕ) → o < columns → f o ≡ g o) → line_of f m ≡ line_of g m
unfolding line_of
line_same f g m h = rw (row_same f g columns h, h 4 (omega arith), h 5 (omega arith))

-- ---- the lines

pub takes_no_lines : {a : Text} (counts : ℕ → ℕ → ℕ) → Takes a a (lines_of counts 0)
unfolding lines_of
takes_no_lines counts = takes_none

module _ (counts : List ℕ) (m : ℕ) where
  -- a line is put in from the part of the counts that is its size's
  part_cell : counts_length (m + 1) ≤ length counts → (o : ℕ) → o < columns → slice_index (slice_range counts (columns * m) (columns * m + columns)) o ≡ cell counts m o
  part_cell h o l = grind (arith, common_steps)

  pub takes_line : {a b c : Text} → counts_length (m + 1) ≤ length counts → Takes a b (lines_of (cell counts) m)
      → Takes b c (line_of (slice_index (slice_range counts (columns * m) (columns * m + columns))) m) → Takes a c (lines_of (cell counts) (m + 1))
  unfolding lines_of
  takes_line {a} {b} {c} h v w = rw (add-one, ← line_same _ _ m (part_cell h)) (takes_then v w)
