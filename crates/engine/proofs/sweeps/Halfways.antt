-- Rows that are renewed one by one from both ends of the card.
use mathlib.Core.Path.{◌≡◌, ap, ◌∙◌}
use mathlib.Core.Logic.{◌⊎◌, ◌≢◌, inl, inr, ⊎_elim}
use mathlib.Core.List.{List}
use Prim.Native.Nat.{ℕ, ◌+◌, ◌-◌, ◌≤◌, ◌<◌, max}
use native.Mathlib.Omega.{arith}
use Rattle.card.proofs.Tests.{by_eq, by_lt, tests}
use Rattle.engine.specs.Moves.{Family, source_of, new_of}
use Rattle.engine.specs.Rows.{row_start, row_room, row_of}
use Rattle.engine.specs.Totals.{most_to}
use Rattle.engine.specs.Renewals.{RowAt, Renewed, comes, stands, moved_of}
use Rattle.engine.specs.Sweeps.{RowsOf, Bound, Halfway, AllCounted}
use Rattle.engine.specs.declared.rows.Changes.{Changes}
use Rattle.engine.specs.declared.renewals.RowRead.{RowRead}
use Rattle.engine.proofs.rows.RowLaws.{row_kept, rows_apart, source_near, source_lo}
use Rattle.engine.proofs.rows.RowCounts.{stretches_nowhere}
use Rattle.engine.proofs.sweeps.Exchanges.{sum_last, most_over, most_under}

module _ (read : RowRead) (left : ℕ) (J : ℕ → ℕ) (L : ℕ → ℕ → ℕ) where
  -- nothing is done yet
  pub halfway_none : (changes : Changes) (area : List ℕ) → changes.gained ≡ 0 → changes.lost ≡ left → changes.longest ≡ 0 → RowsOf area read.n L → Halfway read left 0 read.n changes area J L
  halfway_none changes area g l m rows = record {
    old = λ k a b. rows k (omega arith) b;
    new = λ k a b h. absurd (⊎_elim (λ z. omega arith) (λ z. omega arith) h);
    sums = omega (arith, g, l);
    covered = λ B bound k a b h. absurd (⊎_elim (λ z. omega arith) (λ z. omega arith) h);
    reached = λ B bound. omega (arith, m);
  }

  -- all is done
  pub halfway_all : (x : ℕ) (changes : Changes) (area : List ℕ) → Halfway read left x x changes area J L
      → RowsOf area read.n (new_of J read.p read.j L) × AllCounted read.n read.p read.j left changes.gained changes.lost changes.longest J L
  halfway_all x changes area half = (
    (λ k a b. half.new k a b (side k)),
    (
      omega (arith, half.sums),
      λ B bound. omega (arith, half.reached B bound, most_under (stands read J L) read.n (max B changes.longest) (λ k a b. half.covered B bound k a b (side k))),
    ),
  )
    where
      side : (k : ℕ) → (k ≤ x) ⊎ (x < k)
      side k = by_lt x k (λ h. inr h) (λ h. inl h)

  -- what comes to a place is one of the old lists, or none
  comes_under : (k B : ℕ) → 0 < read.p → 0 < k → k ≤ read.n → Family L read.n → Bound read.n L B → comes read L k ≤ B
  unfolding moved_of
  comes_under k B pos some le fam bound = by_eq k read.p
      (λ e. simp tests (omega arith))
      (λ ne. simp tests (by_lt read.n (source_of read.p read.j k)
      (λ past. let e : source_of read.p read.j k ≡ read.n + 1 = omega (arith, source_near read.p read.j k) in
      omega (arith, stretches_nowhere (L (source_of read.p read.j k)) read.n (λ m. ap (λ (z : ℕ). L z m) e ∙ fam.past m)))
      (λ in_card. bound (source_of read.p read.j k) (omega (arith, source_lo read.p read.j k pos some)) in_card)))

  module _ (k : ℕ) (changes next : Changes) (area last : List ℕ) (pos : 0 < read.p) (some : 0 < k) (le : k ≤ read.n) (fam : Family L read.n) (re : Renewed read J L k changes next area last) where
    other : (y : ℕ) (R : ℕ → ℕ) → 1 ≤ y → y ≢ k → RowAt area read y R → RowAt last read y R
    other y R one ne row = row_kept area last (row_start read.n k) (row_room read.n k) (row_of read.n y) read.n R re.kept (rows_apart read.n k y some (omega arith) ne) row

    below_most : (B : ℕ) → Bound read.n L B → max B re.more.longest ≡ max B (stands read J L k)
    below_most B bound = re.most B (comes_under k B pos some le fam bound)

    reached_next : (B : ℕ) → Bound read.n L B → changes.longest ≤ max B (most_to read.n (stands read J L)) → next.longest ≤ max B (most_to read.n (stands read J L))
    reached_next B bound h = omega (arith, re.together.2, below_most B bound, most_over (stands read J L) read.n k (omega arith) le)

    covered_next : (B y : ℕ) → Bound read.n L B → (y ≢ k → stands read J L y ≤ max B changes.longest) → stands read J L y ≤ max B next.longest
    covered_next B y bound h = by_eq y k
        (λ e. omega (arith, ap (stands read J L) e, re.together.2, below_most B bound))
        (λ ne. omega (arith, h ne, re.together.2))

    new_next : (y : ℕ) → 1 ≤ y → (y ≢ k → RowAt area read y (new_of J read.p read.j L y)) → RowAt last read y (new_of J read.p read.j L y)
    new_next y one row = by_eq y k (λ e. rw e re.row) (λ ne. other y (new_of J read.p read.j L y) one ne (row ne))

    -- the next row from above
    pub halfway_up : (b : ℕ) → k ≤ b → Halfway read left (k - 1) b changes area J L → Halfway read left k b next last J L
    halfway_up b kb half = record {
      old = λ y a z. other y (L y) (omega arith) (λ e. omega arith) (half.old y (omega arith) z);
      new = λ y a z h. new_next y a (λ ne. half.new y a z (⊎_elim (λ u. inl (omega (arith, ne))) (λ u. inr u) h));
      sums = omega (arith, half.sums, re.balance, re.together.0, re.together.1, sum_last (comes read L) k some, sum_last (stands read J L) k some);
      covered = λ B bound y a z h. covered_next B y bound (λ ne. half.covered B bound y a z (⊎_elim (λ u. inl (omega (arith, ne))) (λ u. inr u) h));
      reached = λ B bound. reached_next B bound (half.reached B bound);
    }

    -- the next row from below
    pub halfway_down : (a : ℕ) → a < k → Halfway read left a k changes area J L → Halfway read left a (k - 1) next last J L
    halfway_down a ak half = record {
      old = λ y b z. other y (L y) (omega arith) (λ e. omega arith) (half.old y b (omega arith));
      new = λ y b z h. new_next y b (λ ne. half.new y b z (⊎_elim (λ u. inl u) (λ u. inr (omega (arith, ne))) h));
      sums = omega (arith, half.sums, re.balance, re.together.0, re.together.1, sum_last (comes read L) k some, sum_last (stands read J L) k some);
      covered = λ B bound y b z h. covered_next B y bound (λ ne. half.covered B bound y b z (⊎_elim (λ u. inl u) (λ u. inr (omega (arith, ne))) h));
      reached = λ B bound. reached_next B bound (half.reached B bound);
    }
