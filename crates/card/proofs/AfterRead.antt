-- What a read keeps, and where blocks stand after it.
use mathlib.Core.Path.{◌≡◌, refl, ap, ◌∙◌}
use mathlib.Core.Bool.{Bool, true, cond}
use mathlib.Core.Logic.{◌≢◌}
use mathlib.Core.List.{List, [], ◌∷◌, ◌++◌}
use Prim.Native.Nat.{ℕ, zero, suc, ◌+◌, ◌-◌, ◌≤◌, ◌<◌, min}
use native.Mathlib.Omega.{arith}
use lib.Dec.{ltb, leb}
use lib.ListN.{length, take}
use Rattle.std.specs.List.{list_all}
use Rattle.std.proofs.lemmas.List.Folds.{list_all-append}
use Rattle.card.specs.Rule.{place, after_read}
use Rattle.card.specs.Moves.{taken_out, put_in}
use Rattle.card.specs.State.{apart}
use Rattle.terms.proofs.Ranges.{and_both}
use Rattle.card.proofs.Tests.{by_lt, by_eq, tests, both_and}
use Rattle.card.proofs.TwoMoves.Shifts.{out, put, out_lo, put_lo, put_hi, out_le}
use Rattle.card.proofs.TwoMoves.Moves.{depth_absent, depth, without, insert_at, moved, Apart, depth_le, depth_moved, depth_moved_same, depth_moved_absent, place_depth, place_there, place_absent, length_moved, apart_moved}
use Rattle.card.proofs.TwoMoves.{two_moves}

-- a card keeps its length
pub length_after : (c : List ℕ) (x p : ℕ) → 1 ≤ p → length (after_read c x p) ≡ length c
length_after c x p h = ap length (two_moves c x p h) ∙ length_moved c x (p - 1)

-- the test of the specs, and what it says
pub apart_holds : (c : List ℕ) → apart c ≡ true → Apart c
apart_holds [] h = tt
apart_holds (y ∷ ys) h =
    by_eq y 0
    (λ e. let g = simp tests at h in ((λ n. absurd (n e)), apart_holds ys g))
    (λ e. by_eq (place ys y) 0
    (λ f. let g = simp tests at h in ((λ n. depth_absent ys y f), apart_holds ys g))
    (λ f. let g = simp tests at h in let z : ◌≡◌ {A = ℕ} 0 1 = cc in absurd (omega arith)))

pub apart_test : (c : List ℕ) → Apart c → apart c ≡ true
apart_test [] a = refl
apart_test (y ∷ ys) a =
    by_eq y 0
    (λ e. simp tests (apart_test ys a.1))
    (λ e. let f = place_absent ys y (a.0 e) in simp tests (apart_test ys a.1))

-- after a read no block is in two places, where none was
pub apart_after : (c : List ℕ) (x p : ℕ) → 0 < x → 1 ≤ p → apart c ≡ true → apart (after_read c x p) ≡ true
apart_after c x p z h a = rw (two_moves c x p h) (apart_test (moved c x (p - 1)) (apart_moved c x (p - 1) (omega arith) (apart_holds c a)))

module _ (test : ℕ → Bool) where
  all_without : (c : List ℕ) (x : ℕ) → list_all test c ≡ true → list_all test (without x c) ≡ true
  all_without [] x h = refl
  all_without (y ∷ ys) x h =
      let (a, b) = and_both (test y) (list_all test ys) h in
      by_eq y x (λ e. simp tests b) (λ e. simp tests (both_and (test y) (list_all test (without x ys)) a (all_without ys x b)))

  all_insert : (q x : ℕ) (c : List ℕ) → test x ≡ true → list_all test c ≡ true → list_all test (insert_at q x c) ≡ true
  all_insert zero x c t h = both_and (test x) (list_all test c) t h
  all_insert (suc q) x [] t h = refl
  all_insert (suc q) x (y ∷ ys) t h =
      let (a, b) = and_both (test y) (list_all test ys) h in both_and (test y) (list_all test (insert_at q x ys)) a (all_insert q x ys t b)

  pub all_take : (n : ℕ) (c : List ℕ) → list_all test c ≡ true → list_all test (take n c) ≡ true
  all_take zero c h = refl
  all_take (suc n) [] h = refl
  all_take (suc n) (y ∷ ys) h = let (a, b) = and_both (test y) (list_all test ys) h in both_and (test y) (list_all test (take n ys)) a (all_take n ys b)

  all_pad : (c : List ℕ) → test 0 ≡ true → list_all test c ≡ true → list_all test (c ++ (0 ∷ [])) ≡ true
  all_pad c t h = rw (list_all-append test c (0 ∷ []), h, t)

  all_moved : (c : List ℕ) (x q : ℕ) → test 0 ≡ true → test x ≡ true → list_all test c ≡ true → list_all test (moved c x q) ≡ true
  unfolding moved
  all_moved c x q z t h =
      all_take (length c) (insert_at q x (without x c ++ (0 ∷ []))) (all_insert q x (without x c ++ (0 ∷ [])) t (all_pad (without x c) z (all_without c x h)))

-- after a read a test passes at every place, where it did before and does for the block
pub all_after : (test : ℕ → Bool) (c : List ℕ) (x p : ℕ) → 1 ≤ p → test 0 ≡ true → test x ≡ true → list_all test c ≡ true → list_all test (after_read c x p) ≡ true
all_after test c x p h z t e = rw (two_moves c x p h) (all_moved test c x (p - 1) z t e)

-- the place of the block that is read
pub place_read : (c : List ℕ) (x p : ℕ) → 0 < x → 1 ≤ p → apart c ≡ true → place (after_read c x p) x ≡ cond (leb p (length c)) p 0
place_read c x p z h a =
    let d = depth_moved_same c x (p - 1) (omega arith) (apart_holds c a) in
    let l = length_moved c x (p - 1) in
    rw (two_moves c x p h) (by_lt (length c) p
    (λ b. place_absent (moved c x (p - 1)) x (omega arith) ∙ simp tests)
    (λ b. place_there (moved c x (p - 1)) x (omega arith) ∙ simp tests (omega arith)))

-- the two moves on a place, counted from 1; an absent block stays absent
out_none : (j : ℕ) → taken_out j 0 ≡ 0
out_none j = by_eq j 0 (λ e. simp tests) (λ e. by_lt j 0 (λ h. absurd (omega arith)) (λ h. simp tests))

put_none : (p m : ℕ) → 1 ≤ p → put_in p m 0 ≡ 0
put_none p m h = by_lt m p (λ a. simp tests) (λ a. simp tests)

out_one : (j l : ℕ) → taken_out (suc j) (suc l) ≡ suc (out j l)
out_one j l =
    let e : suc j ≢ 0 = omega arith in
    by_lt j l
    (λ h. let k : suc j < suc l = omega arith in simp tests (omega arith))
    (λ h. let k : suc l ≤ suc j = omega arith in simp tests (omega arith))

put_one : (p m o : ℕ) → 1 ≤ p → o < m → cond (ltb (min m (put (p - 1) o)) m) (suc (min m (put (p - 1) o))) 0 ≡ put_in p m (suc o)
put_one p m o h l =
    by_lt m p
    (λ a. let e = put_lo (p - 1) o (omega arith) in let f : min m o ≡ o = omega arith in rw (e, f) (simp tests))
    (λ a. by_lt (suc o) p
    (λ b. let e = put_lo (p - 1) o (omega arith) in let f : min m o ≡ o = omega arith in rw (e, f) (simp tests))
    (λ b. let e = put_hi (p - 1) o (omega arith) in by_lt (suc o) m
    (λ d. let f : min m (o + 1) ≡ suc o = omega arith in rw (e, f) (simp tests (omega arith)))
    (λ d. let f : min m (o + 1) ≡ m = omega arith in let g : m ≤ m = omega arith in rw (e, f) (simp tests))))

module _ (c : List ℕ) (x p k : ℕ) (h : 1 ≤ p) (z : 0 < k) (n : k ≢ x) where
  absent_stays : depth c k ≡ length c → place (moved c x (p - 1)) k ≡ put_in p (length c) (taken_out (place c x) (place c k))
  absent_stays e =
      let d = depth_moved_absent c x (p - 1) k (omega arith) n e in
      rw (place_absent c k e, out_none, put_none p (length c) h) (place_absent (moved c x (p - 1)) k (omega (arith, length_moved c x (p - 1))))

  taken_out_lem : depth c k < length c → taken_out (place c x) (place c k) ≡ suc (out (depth c x) (depth c k))
  taken_out_lem a =
      let f = place_there c k a in
      by_lt (depth c x) (length c)
      (λ b. rw (f, place_there c x b) (out_one (depth c x) (depth c k)))
      (λ b. let g = place_absent c x (omega (arith, depth_le c x)) in rw (f, g, out_lo (depth c x) (depth c k) (omega arith)))

  there_shifts : depth c k < length c → place (moved c x (p - 1)) k ≡ put_in p (length c) (taken_out (place c x) (place c k))
  there_shifts a =
      rw (taken_out_lem a) (place_depth (moved c x (p - 1)) k
      ∙ rw (length_moved c x (p - 1), depth_moved c x (p - 1) k (omega arith) n a) (put_one p (length c) (out (depth c x) (depth c k)) h (omega (arith, out_le (depth c x) (depth c k)))))

  -- the place of another block
  pub place_other : place (after_read c x p) k ≡ put_in p (length c) (taken_out (place c x) (place c k))
  place_other = rw (two_moves c x p h) (by_lt (depth c k) (length c) there_shifts (λ a. absent_stays (omega (arith, depth_le c k))))

  -- a block that is not there and is not read is not there after the read
  pub absent_after : place c k ≡ 0 → place (after_read c x p) k ≡ 0
  absent_after e = place_other ∙ rw (e, out_none, put_none p (length c) h)
