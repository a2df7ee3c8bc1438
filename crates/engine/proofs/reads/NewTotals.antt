-- The total of stretches and the longest list, read off the rows, and the sums after one read more.
use mathlib.Core.Path.{◌≡◌, refl, sym, ap, ◌∙◌}
use mathlib.Core.Bool.{cond}
use mathlib.Core.List.{List, [], ◌∷◌, ◌++◌}
use Prim.Native.Nat.{ℕ, zero, suc, ◌+◌, ◌-◌, ◌≤◌, max}
use native.Mathlib.Omega.{arith}
use lib.Dec.{eqb}
use lib.ListN.{length, get_or}
use Rattle.terms.specs.Reads.{Read}
use Rattle.card.specs.Run.{card_after}
use Rattle.card.specs.Stretches.{places_of, stretches, sum_over, largest_over, total, most_of_one}
use Rattle.card.proofs.Tests.{by_eq, tests}
use Rattle.card.proofs.Inclusion.{length_card}
use Rattle.card.proofs.Totals.{total_places, most_places}
use Rattle.engine.specs.Rows.{places_at}
use Rattle.engine.specs.Totals.{sum_to, most_to}
use Rattle.engine.specs.Sweeps.{Bound}
use Rattle.engine.specs.OneRead.{Covered, SumsAfter, ChangesSummed}
use Rattle.engine.specs.declared.reads.Sums.{Sums}
use Rattle.engine.specs.declared.rows.Changes.{Changes}
use Rattle.engine.proofs.lists.PairLists.{stretches_same}
use Rattle.engine.proofs.rows.RowCounts.{stretches_nowhere}
use Rattle.engine.proofs.sweeps.Exchanges.{sum_same, most_same, most_over, most_under}
use Rattle.engine.proofs.reads.Families.{key_at, family, placed, unplaced, FamilyIs}

-- ---- numbers of places 1 to n against numbers of a list

sum_front : (n : ℕ) (f : ℕ → ℕ) → sum_to (suc n) f ≡ f 1 + sum_to n (λ k. f (suc k))
sum_front zero f = omega arith
sum_front (suc n) f = omega (arith, sum_front n f)

most_front : (n : ℕ) (f : ℕ → ℕ) → most_to (suc n) f ≡ max (f 1) (most_to n (λ k. f (suc k)))
most_front zero f = omega arith
most_front (suc n) f = omega (arith, most_front n f)

-- a list's element by its place
behind : (f : ℕ → ℕ) (x : ℕ) (xs : List ℕ) (k : ℕ) → 1 ≤ k → f (get_or xs (k - 1) 0) ≡ f (get_or (x ∷ xs) (suc k - 1) 0)
behind f x xs zero h = absurd (omega arith)
behind f x xs (suc k) h =
    let a : suc k - 1 ≡ k = omega arith in
    let b : suc (suc k) - 1 ≡ suc k = omega arith in
    ap (λ (q : ℕ). f (get_or xs q 0)) a ∙ ap (λ (q : ℕ). f (get_or (x ∷ xs) q 0)) (sym b)

sum_list : (f : ℕ → ℕ) (c : List ℕ) → sum_over f c ≡ sum_to (length c) (λ k. f (get_or c (k - 1) 0))
sum_list f [] = refl
sum_list f (x ∷ xs) =
    ap (λ (n : ℕ). f x + n) (sum_list f xs ∙ sum_same (λ k. f (get_or xs (k - 1) 0)) (λ k. f (get_or (x ∷ xs) (suc k - 1) 0)) (length xs) (λ k a b. behind f x xs k a))
    ∙ sym (sum_front (length xs) (λ k. f (get_or (x ∷ xs) (k - 1) 0)))

most_list : (f : ℕ → ℕ) (c : List ℕ) → largest_over f c ≡ most_to (length c) (λ k. f (get_or c (k - 1) 0))
most_list f [] = refl
most_list f (x ∷ xs) =
    ap (λ (n : ℕ). max (f x) n) (most_list f xs ∙ most_same (λ k. f (get_or xs (k - 1) 0)) (λ k. f (get_or (x ∷ xs) (suc k - 1) 0)) (length xs) (λ k a b. behind f x xs k a))
    ∙ sym (most_front (length xs) (λ k. f (get_or (x ∷ xs) (k - 1) 0)))

-- ---- the stretches of the largest card's blocks

module _ (n : ℕ) (rs : List Read) where
  own_stretches : (k : ℕ) → 1 ≤ k → cond (eqb (get_or (card_after n rs) (k - 1) 0) 0) 0 (stretches (places_of rs (get_or (card_after n rs) (k - 1) 0)) n) ≡ stretches (family rs n k) n
  own_stretches zero h = absurd (omega arith)
  own_stretches (suc i) h =
      let e : suc i - 1 ≡ i = omega arith in
      rw e (by_eq (key_at rs n i) 0
      (λ z. simp tests (sym (stretches_nowhere (places_at rs n i) n (unplaced rs n i z))))
      (λ z. simp tests (stretches_same (places_of rs (key_at rs n i)) (places_at rs n i) n (λ m a. sym (placed rs n i z m)))))

  abbrev own : ℕ → ℕ
  own x = cond (eqb x 0) 0 (stretches (places_of rs x) n)

  total_family : total n rs ≡ sum_to n (λ k. stretches (family rs n k) n)
  total_family =
      total_places n rs ∙ sum_list own (card_after n rs)
      ∙ ap (λ (l : ℕ). sum_to l (λ k. own (get_or (card_after n rs) (k - 1) 0))) (length_card n rs)
      ∙ sum_same (λ k. own (get_or (card_after n rs) (k - 1) 0)) (λ k. stretches (family rs n k) n) n (λ k a b. own_stretches k a)

  most_family : most_of_one n rs ≡ most_to n (λ k. stretches (family rs n k) n)
  most_family =
      most_places n rs ∙ most_list own (card_after n rs)
      ∙ ap (λ (l : ℕ). most_to l (λ k. own (get_or (card_after n rs) (k - 1) 0))) (length_card n rs)
      ∙ most_same (λ k. own (get_or (card_after n rs) (k - 1) 0)) (λ k. stretches (family rs n k) n) n (λ k a b. own_stretches k a)

-- ---- the sums after changes of the rows

module _ (n : ℕ) (rs : List Read) (sums : Sums) (covered : Covered n rs sums) where
  pub one_bounds : Bound n (family rs n) sums.one
  one_bounds k a b = omega (arith, most_over (λ q. stretches (family rs n q) n) n k a b, most_family n rs, covered.one_covers)

  module _ (changes : Changes) (L : ℕ → ℕ → ℕ) (balance : changes.gained + sum_to n (λ k. stretches (family rs n k) n) ≡ changes.lost + sum_to n (λ k. stretches (L k) n)) where
    pub lost_low : changes.lost ≤ sums.now + changes.gained
    lost_low = omega (arith, balance, total_family n rs, covered.now_covers)

    pub sums_after : (r : Read) → FamilyIs n (rs ++ (r ∷ [])) L → max sums.one changes.longest ≡ max sums.one (most_to n (λ k. stretches (L k) n))
        → (sums' : Sums) → ChangesSummed sums changes sums' → SumsAfter n rs r sums sums'
    sums_after r stands longest sums' summed =
        let same : (k : ℕ) → 1 ≤ k → k ≤ n → stretches (L k) n ≡ stretches (family (rs ++ (r ∷ [])) n k) n = λ k a b. stretches_same (L k) (family (rs ++ (r ∷ [])) n k) n (stands k a b) in
        record {
          now_is = omega (arith, summed.now_is, balance, total_family n rs, total_family n (rs ++ (r ∷ [])), sum_same _ _ n same);
          most_is = summed.most_is;
          one_is = omega (arith, summed.one_is, longest, most_family n (rs ++ (r ∷ [])), most_same _ _ n same);
        }

  -- where nothing moved
  pub still_after : (r : Read) → FamilyIs n (rs ++ (r ∷ [])) (family rs n) → SumsAfter n rs r sums sums
  still_after r stands =
      sums_after (record { gained = 0; lost = 0; longest = 0 }) (family rs n) refl r stands
      (omega (arith, most_under (λ k. stretches (family rs n k) n) n sums.one one_bounds)) sums
      (record { now_is = refl; most_is = omega (arith, covered.most_covers); one_is = omega arith })
