-- Lists that a read leaves as they are.
use mathlib.Core.Path.{◌≡◌, sym, ap, ◌∙◌}
use mathlib.Core.Logic.{◌⊎◌, inl, inr, ⊎_elim}
use Prim.Native.Nat.{ℕ, ◌-◌, ◌≤◌, ◌<◌}
use native.Mathlib.Omega.{arith}
use lib.ListN.{length, get_or}
use Rattle.card.specs.Falling.{Falling}
use Rattle.card.specs.Moves.{taken_out, put_in}
use Rattle.engine.specs.Moves.{other_after}
use Rattle.engine.specs.Rows.{pairs}
use Rattle.engine.proofs.lists.PairLaws.{lt_cases, taken_cases, taken_le, put_low, put_high, hold, moves, pairs_zero}
use Rattle.engine.proofs.ListedStretches.{length_pairs}
use Rattle.engine.proofs.lists.PairFacts.{falls, entries, in_list}

-- Where a block is present, the first size of its list has come, and the first place is no higher.
pub first_bound : (R : ℕ → ℕ) (n m : ℕ) → Falling R → m ≤ n → 0 < R m → (0 < get_or (pairs R n) 0 0) × (get_or (pairs R n) 0 0 ≤ m) × (get_or (pairs R n) 1 0 ≡ R (get_or (pairs R n) 0 0)) × (R m ≤ get_or (pairs R n) 1 0) × (0 < length (pairs R n))
first_bound R n m good hm pos =
    let c = get_or (pairs R n) 0 0 in
    let e0 : length (pairs R 0) ≡ 0 = ap length (pairs_zero R) in
    let e : get_or (pairs R n) (length (pairs R 0)) 0 ≡ c = ap (λ (z : ℕ). get_or (pairs R n) z 0) e0 in
    let z : R 0 ≡ 0 = omega (arith, good.fits 0) in
    let hc : 0 < c = ⊎_elim (λ l. l) (λ ge. absurd (omega (arith, z, (hold R n 0 good m (omega arith) hm (inl (omega arith))).1))) (lt_cases 0 c) in
    let cm : c ≤ m = ⊎_elim (λ lt. absurd (omega (arith, z, (hold R n 0 good m (omega arith) hm (inr (omega arith))).1))) (λ ge. ge) (lt_cases m c) in
    let hl : 0 < length (pairs R n) = in_list R n 0 hc in
    let none : length (pairs R (c - 1)) ≡ 0 = (hold R n 0 good (c - 1) (omega arith) (omega arith) (inr (omega arith))).0 ∙ e0 in
    let place : get_or (pairs R n) 1 0 ≡ R c = (moves R n (c - 1) 0 (omega arith) (sym none) (omega arith)).1 ∙ ap R (omega arith) in
    (hc, cm, place, omega (arith, place, (falls R good c m cm (omega (arith, place, entries R n 1 (omega (arith, length_pairs R n))))).1), hl)

-- A block that is at size n or nowhere, and has an empty list, is nowhere.
pub nowhere : (R : ℕ → ℕ) (n : ℕ) → Falling R → (0 < R n) ⊎ ((m : ℕ) → R m ≡ 0) → get_or (pairs R n) 0 0 ≡ 0 → (m : ℕ) → R m ≡ 0
nowhere R n good some e m = ⊎_elim (λ pos. absurd (omega (arith, (first_bound R n n good (omega arith) pos).0))) (λ none. none m) some

pub keep_above : (J L : ℕ → ℕ) (p n j x : ℕ) → 0 < p → Falling J → Falling L → j ≡ J n → x ≡ get_or (pairs L n) 1 0 → x < p → (j ≡ 0) ⊎ (x < j) → (m : ℕ) → m ≤ n → other_after J p L m ≡ L m
unfolding other_after
keep_above J L p n j x hp gj gl ej ex hx hj m hm =
    ⊎_elim
    (λ pos.
    let b = first_bound L n m gl hm pos in
    let t : taken_out (J m) (L m) ≡ L m = ⊎_elim (λ w. w.1) (⊎_elim
    (λ w. let f = falls J gj m n hm w.0 in absurd (⊎_elim (λ z. omega (arith, f.0)) (λ z. omega (arith, f.1, b.3)) hj))
    (λ w. w.2)) (taken_cases (J m) (L m)) in
    ap (put_in p m) t ∙ put_low p m (L m) (omega (arith, b.3)))
    (λ z. let t : taken_out (J m) (L m) ≡ 0 = omega (arith, taken_le (J m) (L m)) in ap (put_in p m) t ∙ put_low p m 0 hp ∙ omega arith)
    (lt_cases 0 (L m))

pub keep_below : (J L : ℕ → ℕ) (p n j k c x l : ℕ) → 0 < p → Falling J → Falling L → j ≡ J n → L n ≡ k → c ≡ get_or (pairs L n) 0 0 → x ≡ get_or (pairs J n) 0 0 → l ≡ get_or (pairs J n) 1 0 → 0 < j → x ≤ c → p < k → l < k → (m : ℕ) → m ≤ n → other_after J p L m ≡ L m
unfolding other_after
keep_below J L p n j k c x l hp gj gl ej ek ec ex el hj hx hpk hl m hm =
    ⊎_elim
    (λ pos.
    let b = first_bound L n m gl hm pos in
    let d = first_bound J n n gj (omega arith) (omega arith) in
    let f = falls J gj (get_or (pairs J n) 0 0) m (omega (arith, b.1)) (omega (arith, d.2, d.3)) in
    let g = falls L gl m n hm pos in
    let t : taken_out (J m) (L m) ≡ L m - 1 = ⊎_elim (λ w. omega (arith, f.0)) (⊎_elim (λ w. w.2) (λ w. omega (arith, f.1, d.2, g.1))) (taken_cases (J m) (L m)) in
    ap (put_in p m) t ∙ put_high p m (L m - 1) (omega (arith, g.1)) (omega (arith, gl.fits m)) ∙ omega arith)
    (λ z. let t : taken_out (J m) (L m) ≡ 0 = omega (arith, taken_le (J m) (L m)) in ap (put_in p m) t ∙ put_low p m 0 hp ∙ omega arith)
    (lt_cases 0 (L m))
