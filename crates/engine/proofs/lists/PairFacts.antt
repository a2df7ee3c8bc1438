-- What a list of stretches holds.
use mathlib.Core.Path.{◌≡◌, sym, ap, ◌∙◌}
use mathlib.Core.Logic.{⊎_elim}
use mathlib.Core.List.{List, [], ◌∷◌, ◌++◌}
use Prim.Native.Nat.{ℕ, zero, suc, ◌+◌, ◌-◌, ◌≤◌, ◌<◌}
use native.Mathlib.Omega.{arith}
use native.Mathlib.Decide.{le_ind}
use lib.ListN.{length, get_or, length-append, get_or-eq_default}
use borrow.Author.Tests.{le-leb, lt-leb}
use Rattle.card.specs.Falling.{Falling}
use Rattle.card.proofs.StretchBounds.{falling_half}
use Rattle.engine.specs.Moves.{own}
use Rattle.engine.specs.Rows.{pairs, row_length}
use Rattle.engine.specs.Lists.{Ends}
use Rattle.engine.proofs.ListedStretches.{length_pairs}
use Rattle.engine.proofs.lists.PairLaws.{level_pairs, start_s, lt_cases, eq_cases, pairs_cases, pairs_zero, prefix, start_at}

-- a row has room
pub pairs_fit : (R : ℕ → ℕ) (n : ℕ) → Falling R → length (pairs R n) ≤ row_length n
pairs_fit R n good = omega (arith, length_pairs R n, falling_half R good n)

-- Once present, present at each larger size, and no lower.
pub falls : (R : ℕ → ℕ) → Falling R → (m k : ℕ) → m ≤ k → 0 < R m → (0 < R k) × (R k ≤ R m)
falls R good m k h pos = le_ind (λ z. (0 < R z) × (R z ≤ R m)) (pos, omega arith) (λ z hz ih. ((good.falls z ih.0).0, omega (arith, (good.falls z ih.0).1))) k h

-- one stretch, from size c on at place l
pub pairs_one : (R : ℕ → ℕ) (n c l : ℕ) → 0 < c → c ≤ n → 0 < l → ((m : ℕ) → m < c → R m ≡ 0) → ((m : ℕ) → c ≤ m → m ≤ n → R m ≡ l) → pairs R n ≡ c ∷ l ∷ []
pairs_one R n c l pos h some low high =
    let e : c ≡ suc (c - 1) = omega arith in
    let a : pairs R (c - 1) ≡ [] = level_pairs R 0 (c - 1) (omega arith) (λ m h0 hm. low m (omega arith) ∙ sym (low 0 pos)) ∙ pairs_zero R in
    let b : pairs R c ≡ pairs R (c - 1) ++ (c ∷ R c ∷ []) = start_s R (c - 1) c e (omega (arith, high c (omega arith) h)) (λ z. omega (arith, high c (omega arith) h, low (c - 1) (omega arith))) in
    level_pairs R c n h (λ m hs hm. high m hs hm ∙ sym (high c (omega arith) h)) ∙ b ∙ ap (λ (x : List ℕ). x ++ (c ∷ R c ∷ [])) a ∙ ap (λ (z : ℕ). c ∷ z ∷ []) (high c (omega arith) h)

-- the block read
pub pairs_own : (p n : ℕ) → 0 < p → p ≤ n → pairs (own p) n ≡ p ∷ p ∷ []
unfolding own
pairs_own p n pos h = pairs_one (own p) n p p pos h pos (λ m lt. simp (lt-leb p m lt)) (λ m le hm. simp (le-leb p m le))

-- No entry of a list is 0.
pub entries : (R : ℕ → ℕ) (n x : ℕ) → x < length (pairs R n) → 0 < get_or (pairs R n) x 0
entries R zero x h = absurd (omega (arith, ap length (pairs_zero R)))
entries R (suc n) x h =
    ⊎_elim
    (λ lt. let e = prefix R n (suc n) x (omega arith) lt in omega (arith, e, entries R n x lt))
    (λ ge. ⊎_elim
    (λ w. absurd (omega (arith, ap length w.1)))
    (λ w.
    let el : length (pairs R (suc n)) ≡ length (pairs R n) + 2 = ap length w.2 ∙ length-append (pairs R n) (suc n ∷ R (suc n) ∷ []) in
    let st = start_at R n (suc n) (omega arith) w.0 w.1 in
    ⊎_elim (λ z. let e = ap (λ (k : ℕ). get_or (pairs R (suc n)) k 0) z in omega (arith, e, st.0))
    (λ ne. let z : x ≡ length (pairs R n) + 1 = omega (arith, ne) in let e = ap (λ (k : ℕ). get_or (pairs R (suc n)) k 0) z in omega (arith, e, st.1, w.0))
    (eq_cases x (length (pairs R n))))
    (pairs_cases R n))
    (lt_cases x (length (pairs R n)))

pub in_list : (R : ℕ → ℕ) (n i : ℕ) → 0 < get_or (pairs R n) i 0 → i < length (pairs R n)
in_list R n i h = ⊎_elim (λ lt. lt) (λ ge. absurd (omega (arith, get_or-eq_default (pairs R n) 0 {n = i} ge))) (lt_cases i (length (pairs R n)))

-- What holds a list from q on has only zeros after the first from there.
pub ends : (xs : List ℕ) (R : ℕ → ℕ) (n q : ℕ) → ((x : ℕ) → q ≤ x → get_or xs x 0 ≡ get_or (pairs R n) x 0) → Ends xs q
ends xs R n q h x y hq hy e =
    let hx : length (pairs R n) ≤ x = ⊎_elim (λ lt. absurd (omega (arith, e, h x hq, entries R n x lt))) (λ ge. ge) (lt_cases x (length (pairs R n))) in
    h y (omega arith) ∙ get_or-eq_default (pairs R n) 0 {n = y} (omega arith)
