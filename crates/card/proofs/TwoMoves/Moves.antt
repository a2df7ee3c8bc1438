-- A read as two moves: the block is taken out, and put in again. Here places count from 0.
use mathlib.Core.Path.{◌≡◌, refl, sym, ap, ◌∙◌}
use mathlib.Core.Bool.{cond}
use mathlib.Core.Logic.{◌≢◌}
use mathlib.Core.List.{List, [], ◌∷◌, ◌++◌}
use Prim.Native.Nat.{ℕ, zero, suc, ◌+◌, ◌≤◌, ◌<◌, min}
use native.Mathlib.Omega.{arith}
use lib.Dec.{ltb, leb, eqb}
use lib.ListN.{length, get_or, take, length-append, length-take}
use Rattle.card.specs.Rule.{one_lower, place}
use Rattle.card.proofs.Tests.{bit, bit_le, by_lt, by_eq, tests}
use Rattle.card.proofs.TwoMoves.Shifts.{out, put, out_strict, out_suc}

-- how many places stand above a key; the length, where it does not stand
abbrev pub depth : List ℕ → ℕ → ℕ
depth [] k = 0
depth (y ∷ ys) k = cond (eqb y k) 0 (suc (depth ys k))

-- without the key x: what is below comes one higher, and the list is one shorter
abbrev pub without : ℕ → List ℕ → List ℕ
without x [] = []
without x (y ∷ ys) = cond (eqb y x) ys (y ∷ without x ys)

-- x at q: what is there and below goes one lower; nothing, where q is past the end
abbrev pub insert_at : ℕ → ℕ → List ℕ → List ℕ
insert_at zero x l = x ∷ l
insert_at (suc q) x [] = []
insert_at (suc q) x (y ∷ ys) = y ∷ insert_at q x ys

-- one read, as a take-out and a put-in
unfoldable pub moved : List ℕ → ℕ → ℕ → List ℕ
moved c x q = take (length c) (insert_at q x (without x c ++ (0 ∷ [])))

pub depth_le : (c : List ℕ) (k : ℕ) → depth c k ≤ length c
depth_le [] k = omega arith
depth_le (y ∷ ys) k = let ih = depth_le ys k in by_eq y k (λ e. simp tests (omega arith)) (λ e. simp tests (omega arith))

depth_without : (c : List ℕ) (x k : ℕ) → k ≢ x → depth (without x c) k ≡ out (depth c x) (depth c k)
depth_without [] x k n = refl
depth_without (y ∷ ys) x k n =
    let ih = simp bit_le at (depth_without ys x k n) in
    by_eq y x
    (λ e. let f : y ≢ k = omega arith in simp (tests, bit_le) (omega arith))
    (λ e. by_eq y k (λ f. simp (tests, bit_le) (omega arith)) (λ f. simp (tests, bit_le) (omega arith)))

depth_insert : (q : ℕ) (c : List ℕ) (x k : ℕ) → k ≢ x → depth (insert_at q x c) k ≡ put q (depth c k)
depth_insert zero c x k n = let e : x ≢ k = omega arith in simp (tests, bit_le) (omega arith)
depth_insert (suc q) [] x k n = simp bit_le (omega arith)
depth_insert (suc q) (y ∷ ys) x k n =
    let ih = simp bit_le at (depth_insert q ys x k n) in
    by_eq y k (λ f. simp (tests, bit_le) (omega arith)) (λ f. simp (tests, bit_le) (omega arith))

depth_insert_same : (q : ℕ) (c : List ℕ) (x : ℕ) → depth c x ≡ length c → depth (insert_at q x c) x ≡ min q (length c)
depth_insert_same zero c x a = simp tests (omega arith)
depth_insert_same (suc q) [] x a = omega arith
depth_insert_same (suc q) (y ∷ ys) x a =
    by_eq y x
    (λ e. absurd (let b = simp tests at a in omega arith))
    (λ e. let b = simp tests at a in let ih = depth_insert_same q ys x (omega arith) in simp tests (omega arith))

pub depth_take : (n : ℕ) (c : List ℕ) (k : ℕ) → depth (take n c) k ≡ min n (depth c k)
depth_take zero c k = omega arith
depth_take (suc n) [] k = omega arith
depth_take (suc n) (y ∷ ys) k =
    let ih = depth_take n ys k in
    by_eq y k (λ f. simp tests (omega arith)) (λ f. simp tests (omega arith))

-- an empty place after a card: a key that stood nowhere stands nowhere
depth_pad : (c : List ℕ) (k : ℕ) → k ≢ 0 → depth (c ++ (0 ∷ [])) k ≡ depth c k + bit (leb (length c) (depth c k))
depth_pad [] k n = let e : 0 ≢ k = omega arith in simp tests (omega arith)
depth_pad (y ∷ ys) k n =
    let ih = simp bit_le at (depth_pad ys k n) in
    by_eq y k (λ f. simp (tests, bit_le) (omega arith)) (λ f. simp (tests, bit_le) (omega arith))

pub length_without : (c : List ℕ) (x : ℕ) → length (without x c) ≡ out (depth c x) (length c)
length_without [] x = refl
length_without (y ∷ ys) x =
    let ih = simp bit_le at (length_without ys x) in
    by_eq y x (λ f. simp (tests, bit_le) (omega arith)) (λ f. simp (tests, bit_le) (omega arith))

length_insert : (q x : ℕ) (c : List ℕ) → length (insert_at q x c) ≡ put q (length c)
length_insert zero x c = simp bit_le (omega arith)
length_insert (suc q) x [] = simp bit_le (omega arith)
length_insert (suc q) x (y ∷ ys) = let ih = simp bit_le at (length_insert q x ys) in simp bit_le (omega arith)

-- no key but 0 stands twice
abbrev pub Apart : List ℕ → Type 0
Apart [] = Unit {0}
Apart (y ∷ ys) = (y ≢ 0 → depth ys y ≡ length ys) × Apart ys

apart_without : (c : List ℕ) (x : ℕ) → Apart c → Apart (without x c)
apart_without [] x a = tt
apart_without (y ∷ ys) x a =
    by_eq y x
    (λ e. simp tests a.1)
    (λ e. simp tests ((λ n. depth_without ys x y e ∙ ap (out (depth ys x)) (a.0 n) ∙ sym (length_without ys x)), apart_without ys x a.1))

absent_without : (c : List ℕ) (x : ℕ) → x ≢ 0 → Apart c → depth (without x c) x ≡ length (without x c)
absent_without [] x n a = refl
absent_without (y ∷ ys) x n a =
    by_eq y x
    (λ e. simp tests (rw e at (a.0 (omega arith))))
    (λ e. simp tests (ap suc (absent_without ys x n a.1)))

apart_insert : (q x : ℕ) (c : List ℕ) → depth c x ≡ length c → Apart c → Apart (insert_at q x c)
apart_insert zero x c b a = ((λ n. b), a)
apart_insert (suc q) x [] b a = tt
apart_insert (suc q) x (y ∷ ys) b a =
    by_eq y x
    (λ e. absurd (let f = simp tests at b in omega arith))
    (λ e. let f = simp tests at b in
    ((λ n. depth_insert q ys x y e ∙ ap (put q) (a.0 n) ∙ sym (length_insert q x ys)), apart_insert q x ys (omega arith) a.1))

apart_take : (n : ℕ) (c : List ℕ) → Apart c → Apart (take n c)
apart_take zero c a = tt
apart_take (suc n) [] a = tt
apart_take (suc n) (y ∷ ys) a = ((λ z. depth_take n ys y ∙ ap (min n) (a.0 z) ∙ sym (length-take n ys)), apart_take n ys a.1)

apart_pad : (c : List ℕ) → Apart c → Apart (c ++ (0 ∷ []))
apart_pad [] a = ((λ z. refl), tt)
apart_pad (y ∷ ys) a = ((λ z. let b = a.0 z in let d = simp bit_le at (depth_pad ys y z) in omega (arith, length-append ys (0 ∷ []))), apart_pad ys a.1)

pub length_moved : (c : List ℕ) (x q : ℕ) → length (moved c x q) ≡ length c
unfolding moved
length_moved c x q = let h = depth_le c x in simp (length-take, length_insert, length-append, length_without, bit_le) (omega arith)

absent_pad : (c : List ℕ) (x : ℕ) → x ≢ 0 → depth c x ≡ length c → depth (c ++ (0 ∷ [])) x ≡ length (c ++ (0 ∷ []))
absent_pad c x n a = let d = simp bit_le at (depth_pad c x n) in simp length-append (omega arith)

-- a key stands where its depth says
pub get_or_depth : (c : List ℕ) (k : ℕ) → depth c k < length c → get_or c (depth c k) 0 ≡ k
get_or_depth [] k h = absurd (omega arith)
get_or_depth (y ∷ ys) k h =
    by_eq y k (λ e. simp tests e) (λ e. let f = simp tests at h in simp tests (get_or_depth ys k (omega arith)))

pub depth_apart : (c : List ℕ) (k x : ℕ) → k ≢ x → depth c k < length c → depth c k ≢ depth c x
depth_apart c k x n h e = n (sym (get_or_depth c k h) ∙ ap (λ (i : ℕ). get_or c i 0) e ∙ get_or_depth c x (omega arith))

pub apart_moved : (c : List ℕ) (x q : ℕ) → x ≢ 0 → Apart c → Apart (moved c x q)
unfolding moved
apart_moved c x q n a =
    apart_take (length c) (insert_at q x (without x c ++ (0 ∷ [])))
    (apart_insert q x (without x c ++ (0 ∷ [])) (absent_pad (without x c) x n (absent_without c x n a)) (apart_pad (without x c) (apart_without c x a)))

-- where the read block stands after the read
pub depth_moved_same : (c : List ℕ) (x q : ℕ) → x ≢ 0 → Apart c → depth (moved c x q) x ≡ min (length c) q
unfolding moved
depth_moved_same c x q n a =
    let h = depth_insert_same q (without x c ++ (0 ∷ [])) x (absent_pad (without x c) x n (absent_without c x n a)) in
    let g = depth_le c x in
    simp (depth_take, h, length-append, length_without, bit_le) (omega arith)

module _ (c : List ℕ) (x q k : ℕ) (z : k ≢ 0) (n : k ≢ x) where
  -- where another block stands after the read, if it was there
  pub depth_moved : depth c k < length c → depth (moved c x q) k ≡ min (length c) (put q (out (depth c x) (depth c k)))
  unfolding moved
  depth_moved h =
      let w = depth_without c x k n in
      let s : depth (without x c) k < length (without x c) =
      omega (arith, w, length_without c x, out_strict (depth c x) (depth c k) (length c) (depth_apart c k x n h) h) in
      let e = simp bit_le at (depth_pad (without x c) k z) in
      let f : depth (without x c ++ (0 ∷ [])) k ≡ out (depth c x) (depth c k) = omega arith in
      simp (depth_take, depth_insert, f)

  -- and if it was not
  pub depth_moved_absent : depth c k ≡ length c → depth (moved c x q) k ≡ length c
  unfolding moved
  depth_moved_absent h =
      let w : depth (without x c) k ≡ length (without x c) = depth_without c x k n ∙ ap (out (depth c x)) h ∙ sym (length_without c x) in
      let e = simp bit_le at (depth_pad (without x c) k z) in
      let f : length c ≤ depth (without x c ++ (0 ∷ [])) k = omega (arith, length_without c x, out_suc (depth c x) (length c)) in
      simp (depth_take, depth_insert, bit_le) (omega arith)

-- a block's place, counted from 1, is one more than what stands above it
pub place_depth : (c : List ℕ) (x : ℕ) → place c x ≡ cond (ltb (depth c x) (length c)) (suc (depth c x)) 0
place_depth [] x = refl
place_depth (y ∷ ys) x =
    by_eq y x
    (λ e. let k : 0 < suc (length ys) = omega arith in simp tests)
    (λ e. simp tests (ap one_lower (place_depth ys x) ∙ by_lt (depth ys x) (length ys)
    (λ h. let k : suc (depth ys x) < suc (length ys) = omega arith in simp tests)
    (λ h. let k : suc (length ys) ≤ suc (depth ys x) = omega arith in simp tests)))

pub place_there : (c : List ℕ) (x : ℕ) → depth c x < length c → place c x ≡ suc (depth c x)
place_there c x h = place_depth c x ∙ simp tests

pub place_absent : (c : List ℕ) (x : ℕ) → depth c x ≡ length c → place c x ≡ 0
place_absent c x h = let k : length c ≤ depth c x = omega arith in place_depth c x ∙ simp tests

-- and back
pub depth_there : (c : List ℕ) (x : ℕ) → 0 < place c x → (depth c x < length c) × (place c x ≡ suc (depth c x))
depth_there c x h =
    by_lt (depth c x) (length c) (λ a. (a, place_there c x a)) (λ a. absurd (omega (arith, place_absent c x (omega (arith, depth_le c x)))))

pub depth_absent : (c : List ℕ) (x : ℕ) → place c x ≡ 0 → depth c x ≡ length c
depth_absent c x e = by_lt (depth c x) (length c) (λ h. absurd (omega (arith, place_there c x h))) (λ h. omega (arith, depth_le c x))

-- where no block is in two places, one is at the place where it is found
depth_get_or : (c : List ℕ) (i : ℕ) → Apart c → i < length c → get_or c i 0 ≢ 0 → depth c (get_or c i 0) ≡ i
depth_get_or [] i a h n = absurd (omega arith)
depth_get_or (y ∷ ys) zero a h n = simp tests
depth_get_or (y ∷ ys) (suc i) a h n =
    let ih = depth_get_or ys i a.1 (omega arith) n in
    by_eq y (get_or ys i 0)
    (λ e. absurd (omega (arith, ih, a.0 (rw e n), ap (depth ys) e)))
    (λ e. simp tests (ap suc ih))

pub place_get_or : (c : List ℕ) (i : ℕ) → Apart c → i < length c → get_or c i 0 ≢ 0 → place c (get_or c i 0) ≡ suc i
place_get_or c i a h n = let d = depth_get_or c i a h n in place_there c (get_or c i 0) (omega arith) ∙ ap suc d
