-- The six outcomes: each read has one of them, and a larger card misses no more often.
use mathlib.Core.Path.{◌≡◌, refl}
use mathlib.Core.Bool.{cond}
use mathlib.Core.Logic.{◌≢◌}
use mathlib.Core.List.{List, [], ◌∷◌}
use Prim.Native.Nat.{ℕ, zero, suc, ◌+◌, ◌≤◌, ◌<◌}
use native.Mathlib.Omega.{arith}
use lib.Dec.{eqb}
use lib.ListN.{length, get_or}
use Rattle.terms.specs.Reads.{Read}
use Rattle.card.specs.Rule.{place, outcome, outcome_on}
use Rattle.card.specs.Run.{block_read, asked, empty, next, outcomes, occurrences, count, misses}
use Rattle.card.proofs.Tests.{by_eq, tests}
use Rattle.card.proofs.OutcomeCases.{by_outcome}
use Rattle.card.proofs.Inclusion.{Under, under_next, under_empty, place_under, key_some}

-- there are six outcomes
pub six_outcomes : (m j p : ℕ) → outcome m j p ≤ 5
six_outcomes m j p =
    by_outcome (λ n. n ≤ 5) m j p (λ a b. omega arith) (λ a b. omega arith) (λ a b l. omega arith) (λ a b l. omega arith) (λ a l. omega arith) (λ a l. omega arith)

-- six values, and the one at an index
pub six_at : (f : ℕ → ℕ) (d i : ℕ) → i < 6 → get_or (f 0 ∷ f 1 ∷ f 2 ∷ f 3 ∷ f 4 ∷ f 5 ∷ []) i d ≡ f i
six_at f d zero h = refl
six_at f d (suc zero) h = refl
six_at f d (suc (suc zero)) h = refl
six_at f d (suc (suc (suc zero))) h = refl
six_at f d (suc (suc (suc (suc zero)))) h = refl
six_at f d (suc (suc (suc (suc (suc zero))))) h = refl
six_at f d (suc (suc (suc (suc (suc (suc i)))))) h = absurd (omega arith)

-- 1 where a number is the given one
abbrev pub same : ℕ → ℕ → ℕ
same n o = cond (eqb n o) 1 0

one_of_six : (n : ℕ) → n ≤ 5 → same n 0 + same n 1 + same n 2 + same n 3 + same n 4 + same n 5 ≡ 1
one_of_six zero h = refl
one_of_six (suc zero) h = refl
one_of_six (suc (suc zero)) h = refl
one_of_six (suc (suc (suc zero))) h = refl
one_of_six (suc (suc (suc (suc zero)))) h = refl
one_of_six (suc (suc (suc (suc (suc zero))))) h = refl
one_of_six (suc (suc (suc (suc (suc (suc n)))))) h = absurd (omega arith)

sum_outcomes : (rs : List Read) (c : List ℕ)
    → occurrences 0 (outcomes c rs) + occurrences 1 (outcomes c rs) + occurrences 2 (outcomes c rs) + occurrences 3 (outcomes c rs) + occurrences 4 (outcomes c rs) + occurrences 5 (outcomes c rs) ≡ length rs
sum_outcomes [] c = refl
sum_outcomes (r ∷ rs) c =
    omega (arith, sum_outcomes rs (next c r), one_of_six (outcome_on c (block_read r) (asked (length c) r)) (six_outcomes (length c) (place c (block_read r)) (asked (length c) r)))

-- the six counts add up to the reads
pub counts_sum : (m : ℕ) (rs : List Read) → count m 0 rs + count m 1 rs + count m 2 rs + count m 3 rs + count m 4 rs + count m 5 rs ≡ length rs
counts_sum m rs = sum_outcomes rs (empty m)

-- how many reads do not find their block in the card
abbrev pub absences : List ℕ → List Read → ℕ
absences c [] = 0
absences c (r ∷ rs) = cond (eqb (place c (block_read r)) 0) 1 0 + absences (next c r) rs

miss_absent : (m j p : ℕ) → same (outcome m j p) 4 + same (outcome m j p) 5 ≡ same j 0
miss_absent m j p =
    by_outcome (λ n. same n 4 + same n 5 ≡ same j 0) m j p (λ a b. hit a) (λ a b. hit a) (λ a b l. hit a) (λ a b l. hit a) (λ a l. simp tests) (λ a l. simp tests)
  where
    hit : 1 ≤ j → 0 ≡ same j 0
    hit a = let e : j ≢ 0 = omega arith in simp tests

count_absent : (rs : List Read) (c : List ℕ) → occurrences 4 (outcomes c rs) + occurrences 5 (outcomes c rs) ≡ absences c rs
count_absent [] c = refl
count_absent (r ∷ rs) c = omega (arith, count_absent rs (next c r), miss_absent (length c) (place c (block_read r)) (asked (length c) r))

-- misses are the reads whose block is not there
pub misses_absent : (m : ℕ) (rs : List Read) → misses m rs ≡ absences (empty m) rs
misses_absent m rs = count_absent rs (empty m)

absences_under : (rs : List Read) (c d : List ℕ) → Under c d → absences d rs ≤ absences c rs
absences_under [] c d u = omega arith
absences_under (r ∷ rs) c d u =
    let ih = absences_under rs (next c r) (next d r) (under_next c d r u) in
    by_eq (place c (block_read r)) 0
    (λ a. by_eq (place d (block_read r)) 0 (λ b. simp tests (omega arith)) (λ b. simp tests (omega arith)))
    (λ a. let (b, e) = place_under c d (block_read r) (key_some r) u (omega arith) in
    let f : place d (block_read r) ≢ 0 = omega arith in simp tests (omega arith))

-- misses never rise with the size
pub fewer_misses : (m n : ℕ) → m ≤ n → (rs : List Read) → misses n rs ≤ misses m rs
fewer_misses m n h rs = omega (arith, misses_absent m rs, misses_absent n rs, absences_under rs (empty m) (empty n) (under_empty m n h))
