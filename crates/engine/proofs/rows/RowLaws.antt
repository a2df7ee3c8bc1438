-- Rows: where they lie, and where their lists come from.
use mathlib.Core.Path.{◌≡◌, refl, sym, ap, ◌∙◌, subst}
use mathlib.Core.Logic.{◌⊎◌, ◌≢◌, inl, inr, ⊎_elim}
use mathlib.Core.List.{List, []}
use Prim.Native.Nat.{ℕ, ◌+◌, ◌-◌, ◌≤◌, ◌<◌}
use native.Mathlib.Omega.{arith}
use mathlib.Core.Bool.{true, false}
use lib.ListN.{length, get_or}
use borrow.Author.Tests.{eq-eqb, ne_eqb}
use Rattle.card.proofs.Tests.{by_lt, by_eq, tests, bit}
use Rattle.engine.specs.Moves.{other_after, own, source_of, new_of}
use Rattle.engine.specs.Rows.{pairs, row_start, row_room, Row}
use Rattle.engine.specs.RowMoves.{Kept}
use Rattle.engine.specs.declared.rows.Span.{Span}
use Rattle.engine.proofs.lists.PairLists.{pairs_same}
use Rattle.engine.proofs.lists.PairLaws.{lt_cases, level_pairs, pairs_zero, after_absent}
use Rattle.engine.proofs.rows.RowLayout.{rows_follow}

-- A block that is nowhere has no stretch.
pub pairs_none : (R : ℕ → ℕ) (n : ℕ) → ((m : ℕ) → R m ≡ 0) → pairs R n ≡ []
pairs_none R n h = level_pairs R 0 n (omega arith) (λ m a b. h m ∙ sym (h 0)) ∙ pairs_zero R

-- Above and below the blocks that move, a row keeps its block; between them it comes from the next place below or above.
module _ (p j k : ℕ) where
  pub source_above : k ≤ p → (j ≡ 0) ⊎ (k < j) → source_of p j k ≡ k
  unfolding source_of
  source_above h at = by_eq j 0 (λ z. simp tests) (λ ne. let lt : k < j = ⊎_elim (λ z. absurd (ne z)) (λ lt. lt) at in simp tests)

  pub source_below : 0 < j → j < k → p < k → source_of p j k ≡ k
  unfolding source_of
  source_below pos at h = let ne : j ≢ 0 = omega arith in let le : j ≤ k - 1 = omega arith in simp tests (omega arith)

  pub source_down : p < k → (j ≡ 0) ⊎ (k ≤ j) → source_of p j k ≡ k - 1
  unfolding source_of
  source_down h at = by_eq j 0 (λ z. simp tests) (λ ne. let lt : k - 1 < j = ⊎_elim (λ z. absurd (ne z)) (λ le. omega arith) at in simp tests)

  pub source_up : k ≤ p → 0 < j → j ≤ k → source_of p j k ≡ k + 1
  unfolding source_of
  source_up h pos at = let ne : j ≢ 0 = omega arith in simp tests

  -- there is no other way
  source-by {ℓ} : {P : Type ℓ} → (source_of p j k ≡ k → P) → (p < k → source_of p j k ≡ k - 1 → P) → (source_of p j k ≡ k + 1 → P) → P
  source-by kept down up =
      by_lt p k
      (λ h. by_lt j k
      (λ lt. by_eq j 0 (λ z. down h (source_down h (inl z))) (λ ne. kept (source_below (omega arith) lt h)))
      (λ le. down h (source_down h (inr le))))
      (λ h. by_lt k j
      (λ lt. kept (source_above h (inr lt)))
      (λ le. by_eq j 0 (λ z. kept (source_above h (inl z))) (λ ne. up (source_up h (omega arith) le))))

  pub source_near : (k ≤ source_of p j k + 1) × (source_of p j k ≤ k + 1)
  source_near = source-by (λ e. omega arith) (λ h e. omega arith) (λ e. omega arith)

  pub source_lo : 0 < p → 0 < k → 0 < source_of p j k
  source_lo hp hk = source-by (λ e. omega arith) (λ h e. omega arith) (λ e. omega arith)

pub new_own : (J : ℕ → ℕ) (p j : ℕ) (L : ℕ → ℕ → ℕ) (k : ℕ) → k ≡ p → new_of J p j L k ≡ own p
unfolding new_of
new_own J p j L k e = simp (eq-eqb k p e)

pub new_other : (J : ℕ → ℕ) (p j : ℕ) (L : ℕ → ℕ → ℕ) (k : ℕ) → (k ≡ p → ⊥) → new_of J p j L k ≡ other_after J p (L (source_of p j k))
unfolding new_of
new_other J p j L k e = simp (ne_eqb k p e)

pub row_eq : (area : List ℕ) (row : Span) (n : ℕ) (R S : ℕ → ℕ) → S ≡ R → Row area row (pairs R n) → Row area row (pairs S n)
row_eq area row n R S e held = subst (λ (F : ℕ → ℕ). Row area row (pairs F n)) (sym e) held

-- Places that are the same up to the largest size have the same list.
pub row_same : {area : List ℕ} {row : Span} (R S : ℕ → ℕ) (n : ℕ) → ((m : ℕ) → m ≤ n → R m ≡ S m) → Row area row (pairs R n) → Row area row (pairs S n)
row_same {area} {row} R S n same = subst (Row area row) (pairs_same R S n same)

-- A row below, or from there on, is as it was.
pub row_kept : (area last : List ℕ) (a w : ℕ) (row : Span) (n : ℕ) (R : ℕ → ℕ) → Kept area last a w → (row.start + row.room ≤ a) ⊎ (a + w ≤ row.start) → Row area row (pairs R n) → Row last row (pairs R n)
row_kept area last a w row n R kept d held = record {
  fits = held.fits;
  same = λ q h. ⊎_elim (λ lo. kept.below (row.start + q) (omega arith)) (λ hi. kept.above (row.start + q) (omega arith)) d ∙ held.same q h;
}

pub row_first : (area : List ℕ) (row : Span) (n : ℕ) (R : ℕ → ℕ) → 0 < row.room → Row area row (pairs R n) → get_or area row.start 0 ≡ get_or (pairs R n) 0 0
row_first area row n R h held = let e : row.start ≡ row.start + 0 = omega arith in ap (λ (z : ℕ). get_or area z 0) e ∙ held.same 0 h

-- A row of zeros holds the list of a block that is nowhere.
pub row_none : (area : List ℕ) (row : Span) (n : ℕ) (R : ℕ → ℕ) → ((q : ℕ) → q < row.room → get_or area (row.start + q) 0 ≡ 0) → ((m : ℕ) → R m ≡ 0) → Row area row (pairs R n)
row_none area row n R zeros none = record {
  fits = omega (arith, ap length (pairs_none R n none));
  same = λ q h. zeros q h ∙ sym (ap (λ (l : List ℕ). get_or l q 0) (pairs_none R n none));
}

pub never : {X : Type 0} → false ≡ true → X
never e = absurd (omega (arith, ap bit e))

-- What writes nothing keeps all.
pub kept_same : (area : List ℕ) (a w : ℕ) → Kept area area a w
kept_same area a w = record { size = refl; below = λ x h. refl; above = λ x h. refl }

-- A block that is nowhere stays so.
pub after_none : (J : ℕ → ℕ) (p : ℕ) (L : ℕ → ℕ) → 0 < p → ((m : ℕ) → L m ≡ 0) → (m : ℕ) → other_after J p L m ≡ 0
after_none J p L hp none m = after_absent J p L m hp (none m)

-- Two rows do not meet.
pub rows_apart : (n k y : ℕ) → 0 < k → 0 < y → (y ≡ k → ⊥) → (row_start n y + row_room n y ≤ row_start n k) ⊎ (row_start n k + row_room n k ≤ row_start n y)
rows_apart n k y hk hy ne = ⊎_elim (λ lt. inl (rows_follow n y k hy lt)) (λ ge. inr (rows_follow n k y hk (omega (arith, ne)))) (lt_cases y k)
