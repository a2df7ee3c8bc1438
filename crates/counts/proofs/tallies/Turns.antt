-- The turns that make counts of the tallies: the sums so far, and one size more.
use mathlib.Core.Path.{◌≡◌, refl, sym, ap, ap₂, ◌∙◌}
use mathlib.Core.List.{List, [], ◌∷◌, ◌++◌}
use Prim.Native.Nat.{ℕ, suc, ◌+◌, ◌^◌, ◌≤◌, ◌<◌}
use native.Mathlib.Omega.{arith}
use native.Mathlib.Nat.{add-zero, add-suc}
use native.Mathlib.Numerals.{add-one}
use lib.ListN.{length, get_or, take, drop, set, length-append, length-take, length-drop}
use lib.Seq.{sets, sets-eq, take_at, drop_at, drop-append-add, drop-drop, get_or-drop, get_or-take}
use Rattle.terms.specs.Areas.{zeros}
use Rattle.terms.proofs.Areas.{zeros_at}
use Rattle.counts.specs.Columns.{columns, counts_length, cell_of, row, table}
use Rattle.counts.specs.Tallies.{up_to, SumsGive, Tallies}
use Rattle.counts.specs.TallySteps.{AddReady, Added, FinishReady}
use Rattle.counts.proofs.Tables.{table_length}
use Rattle.counts.proofs.tallies.Sums.{sums_same, sums_low}

-- the cells that are written one after another are those of a list of six
module _ (l : List ℕ) (at : ℕ) where
  pub written : (up same down hit_bypass insert miss_bypass : ℕ)
      → set (set (set (set (set (set l at up) (at + 1) same) (at + 2) down) (at + 3) hit_bypass) (at + 4) insert) (at + 5) miss_bypass
      ≡ sets l at (up ∷ same ∷ down ∷ hit_bypass ∷ insert ∷ miss_bypass ∷ [])
  written up same down hit_bypass insert miss_bypass = cc (add-zero at, add-suc at 0, add-suc at 1, add-suc at 2, add-suc at 3, add-suc at 4)

-- over the tallies of the next size its counts are written
next_row : (c : ℕ → ℕ → ℕ) (m : ℕ) (entry : List ℕ) → counts_length (suc m) ≤ length entry
    → sets (table m c ++ drop (counts_length m) entry) (counts_length m) (row columns (c (suc m))) ≡ table (suc m) c ++ drop (counts_length (suc m)) entry
unfolding table
next_row c m entry long =
    let front = table m c in
    let rest = drop (counts_length m) entry in
    let size : counts_length m ≡ length front = sym (table_length c m) in
    let past : counts_length m + columns ≡ counts_length (suc m) = omega arith in
    let room : counts_length m + columns ≤ length (front ++ rest) = simp (length-append, length-drop) (omega arith) in
    sets-eq (row columns (c (suc m))) (front ++ rest) (counts_length m) room
    ∙ ap₂ (λ (x y : List ℕ). x ++ row columns (c (suc m)) ++ y)
    (take_at front rest (counts_length m) (sym size))
    (ap (λ (i : ℕ). drop (i + columns) (front ++ rest)) size ∙ drop-append-add front rest columns ∙ drop-drop columns (counts_length m) entry ∙ ap (λ (i : ℕ). drop i entry) past)

-- the sums are those of size m, the counts up to there are written, and the rest is as it was
pub record SizesCounted (entry counts : List ℕ) (n m reads : ℕ) (sums : List ℕ) : Type 0 where
  pub same : length counts ≡ length entry
  pub summed : (k : ℕ) → k < columns → get_or sums k 0 ≡ up_to entry k m
  pub counted : (c : ℕ → ℕ → ℕ) → Tallies n reads c entry → counts ≡ table m c ++ drop (counts_length m) entry

module _ (entry : List ℕ) (n reads : ℕ) (ready : FinishReady entry n reads) where
  pub none_counted : SizesCounted entry entry n 0 reads (zeros columns)
  unfolding table
  none_counted = record { same = refl; summed = λ k h. zeros_at columns k; counted = λ c tallies. refl }

  module _ (counts sums : List ℕ) (m : ℕ) (sofar : SizesCounted entry counts n m reads sums) where
    module _ (more : m < n) (w : ℕ) (wide : w ≡ columns) where
      -- the tallies of the next size are still there
      size_at : (k : ℕ) → k < columns → get_or (take w (drop (counts_length m) counts)) k 0 ≡ get_or entry (cell_of m k) 0
      size_at k h =
          let front = table m ready.given in
          let low : k < w = omega arith in
          rw (get_or-take w (drop (counts_length m) counts) k 0 low, sofar.counted ready.given ready.gives, drop_at front (drop (counts_length m) entry) (counts_length m) (table_length ready.given m))
          (get_or-drop (counts_length m) entry k 0)

      pub add_ready : reads < 2 ^ 64 → AddReady sums (take w (drop (counts_length m) counts))
      add_ready few = record {
        there = simp (length-take, length-drop) (omega (arith, ready.long, sofar.same));
        fits = λ k h. omega (arith, sofar.summed k h, size_at k h, sums_low (ready.gives (suc m) (omega arith) (omega arith)) k h);
      }

      module _ (sums₁ : List ℕ) (added : Added sums sums₁ (take w (drop (counts_length m) counts))) where
        -- the sums with those of the next size give its counts
        pub next_gives : (c : ℕ → ℕ → ℕ) → Tallies n reads c entry → SumsGive (λ k. get_or sums₁ k 0) reads (c (suc m))
        next_gives c tallies =
            sums_same (λ k h. omega (arith, added k h, sofar.summed k h, size_at k h)) (λ o h. refl) (tallies (suc m) (omega arith) (omega arith))

        pub turn : (six counts₁ : List ℕ) → length counts₁ ≡ length counts → ((c : ℕ → ℕ) → SumsGive (λ k. get_or sums₁ k 0) reads c → six ≡ row columns c)
            → counts₁ ≡ sets counts (counts_length m) six → SizesCounted entry counts₁ n (m + 1) reads sums₁
        turn six counts₁ same gives wrote = rw add-one record {
          same = same ∙ sofar.same;
          summed = λ k h. omega (arith, added k h, sofar.summed k h, size_at k h);
          counted = λ c tallies. rw (wrote, sofar.counted c tallies, gives (c (suc m)) (next_gives c tallies)) (next_row c m entry (omega (arith, ready.long)));
        }
