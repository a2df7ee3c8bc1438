-- The two moves in their four forms: hit or miss, put in or passed by.
use mathlib.Core.Path.{◌≡◌, refl, ap, ◌∙◌}
use mathlib.Core.List.{List, [], ◌∷◌, ◌++◌}
use Prim.Native.Nat.{ℕ, zero, suc, ◌-◌, ◌≤◌, ◌<◌}
use native.Mathlib.Omega.{arith}
use lib.ListN.{length, take, length-append}
use lib.Seq.{take-append-le, take-length, take_all}
use Rattle.card.proofs.Tests.{by_eq, tests}
use Rattle.card.proofs.TwoMoves.Shifts.{out_hi}
use Rattle.card.proofs.TwoMoves.Moves.{depth, without, insert_at, moved, length_without}

without_absent : (c : List ℕ) (x : ℕ) → depth c x ≡ length c → without x c ≡ c
without_absent [] x h = refl
without_absent (y ∷ ys) x h =
    by_eq y x
    (λ e. absurd (let g = simp tests at h in omega arith))
    (λ e. let g = simp tests at h in simp tests (ap (λ (r : List ℕ). y ∷ r) (without_absent ys x (omega arith))))

take_insert : (n q x : ℕ) (l : List ℕ) → n ≤ q → take n (insert_at q x l) ≡ take n l
take_insert zero q x l h = refl
take_insert (suc n) zero x l h = absurd (omega arith)
take_insert (suc n) (suc q) x [] h = refl
take_insert (suc n) (suc q) x (y ∷ ys) h = ap (λ (r : List ℕ). y ∷ r) (take_insert n q x ys (omega arith))

take_insert_in : (n q x : ℕ) (l : List ℕ) → q ≤ n → take (suc n) (insert_at q x l) ≡ insert_at q x (take n l)
take_insert_in n zero x l h = refl
take_insert_in zero (suc q) x l h = absurd (omega arith)
take_insert_in (suc n) (suc q) x [] h = refl
take_insert_in (suc n) (suc q) x (y ∷ ys) h = ap (λ (r : List ℕ). y ∷ r) (take_insert_in n q x ys (omega arith))

module _ (c : List ℕ) (x q : ℕ) where
  pub hit_in : depth c x < length c → q < length c → moved c x q ≡ insert_at q x (without x c)
  unfolding moved
  hit_in h k =
      let l : length c ≡ suc (length (without x c)) = omega (arith, length_without c x, out_hi (depth c x) (length c) h) in
      rw l (take_insert_in (length (without x c)) q x (without x c ++ (0 ∷ [])) (omega arith)
      ∙ ap (insert_at q x) (take-append-le (length (without x c)) (without x c) (0 ∷ []) (omega arith) ∙ take-length (without x c)))

  pub hit_by : depth c x < length c → length c ≤ q → moved c x q ≡ without x c ++ (0 ∷ [])
  unfolding moved
  hit_by h k = take_insert (length c) q x (without x c ++ (0 ∷ [])) k
      ∙ take_all (length c) (without x c ++ (0 ∷ [])) (omega (arith, length-append (without x c) (0 ∷ []), length_without c x, out_hi (depth c x) (length c) h))

  pub miss_in : depth c x ≡ length c → q < length c → moved c x q ≡ insert_at q x (take (length c - 1) c)
  unfolding moved
  miss_in h k =
      let l : length c ≡ suc (length c - 1) = omega arith in
      ap (λ (r : List ℕ). take (length c) (insert_at q x (r ++ (0 ∷ [])))) (without_absent c x h)
      ∙ ap (λ (n : ℕ). take n (insert_at q x (c ++ (0 ∷ [])))) l
      ∙ take_insert_in (length c - 1) q x (c ++ (0 ∷ [])) (omega arith)
      ∙ ap (insert_at q x) (take-append-le (length c - 1) c (0 ∷ []) (omega arith))

  pub miss_by : depth c x ≡ length c → length c ≤ q → moved c x q ≡ c
  unfolding moved
  miss_by h k =
      ap (λ (r : List ℕ). take (length c) (insert_at q x (r ++ (0 ∷ [])))) (without_absent c x h)
      ∙ take_insert (length c) q x (c ++ (0 ∷ [])) k
      ∙ take-append-le (length c) c (0 ∷ []) (omega arith) ∙ take-length c
