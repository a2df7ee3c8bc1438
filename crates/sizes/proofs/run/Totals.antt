-- The total of stretches and the two peaks over the reads so far.
use mathlib.Core.Path.{◌≡◌, refl, ap}
use mathlib.Core.List.{List, [], ◌∷◌, ◌++◌, append_assoc}
use Prim.Native.Nat.{ℕ, ◌+◌, ◌-◌, ◌*◌, ◌^◌, ◌≤◌, ◌<◌, max}
use native.Mathlib.Omega.{arith}
use native.Mathlib.Nat.{mul-le-mul}
use Rattle.terms.specs.Ranges.{size}
use Rattle.terms.specs.Reads.{Read}
use Rattle.card.specs.Stretches.{total, most_of_one, largest_after, half}
use Rattle.card.proofs.Totals.{total_bound}
use Rattle.engine.specs.OneRead.{Covered, SumsAfter}
use Rattle.engine.specs.declared.reads.Sums.{Sums}
use Rattle.engine.proofs.Widths.{size_small}
use Rattle.sizes.specs.Totals.{Totals}

-- ---- the peak of any number

module _ (f : List Read → ℕ) where
  -- over one read more
  peak_more : (earlier rs : List Read) (r : Read) → largest_after f earlier (rs ++ (r ∷ [])) ≡ max (largest_after f earlier rs) (f (earlier ++ (rs ++ (r ∷ []))))
  peak_more earlier [] r = omega arith
  peak_more earlier (s ∷ rs) r =
      let ih = peak_more (earlier ++ (s ∷ [])) rs r in
      let e = ap f (append_assoc earlier (s ∷ []) (rs ++ (r ∷ []))) in
      omega arith

  peak_last : (earlier : List Read) (r : Read) (rs : List Read) → f (earlier ++ (r ∷ rs)) ≤ largest_after f earlier (r ∷ rs)
  peak_last earlier r [] = omega arith
  peak_last earlier r (s ∷ rs) =
      let ih = peak_last (earlier ++ (r ∷ [])) s rs in
      let e = ap f (append_assoc earlier (r ∷ []) (s ∷ rs)) in
      omega arith

  -- the last one is no larger
  peak_covers : f [] ≡ 0 → (rs : List Read) → f rs ≤ largest_after f [] rs
  peak_covers none [] = omega arith
  peak_covers none (r ∷ rs) = peak_last [] r rs

-- ---- the numbers that are kept

total_none : (n : ℕ) → total n [] ≡ 0
unfolding total
total_none n = refl

most_none : (n : ℕ) → most_of_one n [] ≡ 0
unfolding most_of_one
most_none n = refl

pub totals_none : (n : ℕ) (sums : Sums) → (sums.now ≡ 0) × ((sums.most ≡ 0) × (sums.one ≡ 0)) → Totals n [] sums
totals_none n sums zero = record { now_is = omega (arith, total_none n); most_is = zero.1.0; one_is = zero.1.1 }

-- a total is small
total_small : (n : ℕ) (rs : List Read) → n ≤ size.largest → total n rs < 2 ^ 62
total_small n rs h =
    let low = size_small n h in
    let upper : half n * (half n + 1) ≤ 2 ^ 16 * 2 ^ 16 = mul-le-mul {n₂ = 2 ^ 16} {m₂ = 2 ^ 16} (omega arith) (omega arith) in
    let lower : (n - half n) * half n ≤ 2 ^ 16 * 2 ^ 16 = mul-le-mul {n₂ = 2 ^ 16} {m₂ = 2 ^ 16} (omega arith) (omega arith) in
    omega (arith, total_bound n rs)

module _ (n : ℕ) (rs : List Read) (sums : Sums) (totals : Totals n rs sums) where
  -- they are what a read asks for
  pub totals_covered : n ≤ size.largest → Covered n rs sums
  totals_covered h = record {
    now_covers = omega (arith, totals.now_is);
    most_covers = omega (arith, totals.now_is, totals.most_is, peak_covers (total n) (total_none n) rs);
    one_covers = omega (arith, totals.one_is, peak_covers (most_of_one n) (most_none n) rs);
    low = omega (arith, totals.now_is, total_small n rs h);
  }

  pub totals_more : (r : Read) (sums' : Sums) → SumsAfter n rs r sums sums' → Totals n (rs ++ (r ∷ [])) sums'
  totals_more r sums' after =
      let same : sums'.now ≡ total n (rs ++ (r ∷ [])) = omega (arith, totals.now_is, after.now_is) in
      record {
        now_is = same;
        most_is = omega (arith, totals.most_is, after.most_is, peak_more (total n) [] rs r);
        one_is = omega (arith, totals.one_is, after.one_is, peak_more (most_of_one n) [] rs r);
      }
