-- Lists of stretches size by size, and the merge of two of them.
use mathlib.Core.Path.{◌≡◌, refl, sym, ap, ◌∙◌, subst}
use mathlib.Core.Logic.{◌⊎◌, inl, inr, ⊎_elim}
use mathlib.Core.Bool.{cond}
use mathlib.Core.List.{List, [], ◌∷◌, ◌++◌, append-nil}
use Prim.Native.Nat.{ℕ, suc, ◌+◌, ◌-◌, ◌≤◌, ◌<◌}
use native.Mathlib.Omega.{arith}
use native.Mathlib.Decide.{le_ind}
use lib.Dec.{eqb}
use lib.ListN.{length, get_or, set, length-set, length-append, get_or-append, get_or-eq_default}
use lib.Seq.{get_or-append-add, get_or-append_seam, get_or-set_same, get_or-set_other}
use borrow.Author.Tests.{lt-ltb, le-ltb, eq-eqb, ne_eqb}
use Rattle.card.specs.Stretches.{starts}
use Rattle.card.proofs.Tests.{by_lt, by_eq}
use Rattle.card.specs.Falling.{Falling}
use Rattle.card.specs.Moves.{taken_out, put_in}
use Rattle.engine.specs.Moves.{other_after}
use Rattle.engine.specs.Rows.{pairs}
use Rattle.engine.specs.Lists.{Holds, Begins, At, Level, ListedUpTo, next_size}

pub lt_cases : (a b : ℕ) → (a < b) ⊎ (b ≤ a)
lt_cases a b = by_lt a b inl inr

pub eq_cases : (a b : ℕ) → (a ≡ b) ⊎ (a ≡ b → ⊥)
eq_cases a b = by_eq a b inl inr

-- The three ways of taking out, with what holds in each.
pub taken_cases : (j l : ℕ) → ((j ≡ 0) × (taken_out j l ≡ l)) ⊎ (((0 < j) × (j < l) × (taken_out j l ≡ l - 1)) ⊎ ((0 < j) × (l ≤ j) × (taken_out j l ≡ l)))
taken_cases j l =
    ⊎_elim (λ e. inl (e, simp (eq-eqb j 0 e)))
    (λ ne. inr (⊎_elim (λ h. inl (omega arith, h, simp (ne_eqb j 0 ne, lt-ltb j l h))) (λ h. inr (omega arith, h, simp (ne_eqb j 0 ne, le-ltb j l h))) (lt_cases j l)))
    (eq_cases j 0)

pub put_cases : (p m x : ℕ) → ((m < p) × (put_in p m x ≡ x)) ⊎ (((p ≤ m) × (x < p) × (put_in p m x ≡ x)) ⊎ (((p ≤ m) × (p ≤ x) × (x < m) × (put_in p m x ≡ x + 1)) ⊎ ((p ≤ m) × (p ≤ x) × (m ≤ x) × (put_in p m x ≡ 0))))
put_cases p m x =
    ⊎_elim (λ h. inl (h, simp (lt-ltb m p h)))
    (λ h. inr
    (⊎_elim (λ h2. inl (h, h2, simp (le-ltb m p h, lt-ltb x p h2)))
    (λ h2. inr
    (⊎_elim (λ h3. inl (h, h2, h3, simp (le-ltb m p h, le-ltb x p h2, lt-ltb x m h3)))
    (λ h3. inr (h, h2, h3, simp (le-ltb m p h, le-ltb x p h2, le-ltb x m h3))) (lt_cases x m)))
    (lt_cases x p)))
    (lt_cases m p)

-- what a size c adds, the place being a at the size before and b there
unfoldable added : ℕ → ℕ → ℕ → List ℕ
added c a b = cond (eqb (starts a b) 0) [] (c ∷ b ∷ [])

-- A size adds a pair where the place there is another than before, and nothing elsewhere.
added_cases : (c a b : ℕ) → (((b ≡ 0) ⊎ (a ≡ b)) × (added c a b ≡ [])) ⊎ ((0 < b) × (a ≡ b → ⊥) × (added c a b ≡ c ∷ b ∷ []))
unfolding added
added_cases c a b =
    ⊎_elim (λ e. inl (inl e, simp (eq-eqb b 0 e)))
    (λ ne. ⊎_elim (λ e. inl (inr e, simp (ne_eqb b 0 ne, eq-eqb b a (sym e)))) (λ n2. inr (omega arith, n2, simp (ne_eqb b 0 ne, ne_eqb b a (λ z. n2 (sym z))))) (eq_cases a b))
    (eq_cases b 0)

-- One size more.
pairs_suc : (R : ℕ → ℕ) (m : ℕ) → pairs R (suc m) ≡ pairs R m ++ added (suc m) (R m) (R (suc m))
unfolding pairs added
pairs_suc R m = refl

pub pairs_zero : (R : ℕ → ℕ) → pairs R 0 ≡ []
unfolding pairs
pairs_zero R = refl

-- At a size that begins no stretch, and at one that begins one.
pub pairs_flat : (R : ℕ → ℕ) (m : ℕ) → (R (suc m) ≡ 0) ⊎ (R m ≡ R (suc m)) → pairs R (suc m) ≡ pairs R m
pairs_flat R m h =
    ⊎_elim (λ k. pairs_suc R m ∙ ap (λ z. pairs R m ++ z) k.1 ∙ append-nil (pairs R m))
    (λ k. absurd (⊎_elim (λ e. omega arith) (λ e. k.1 e) h))
    (added_cases (suc m) (R m) (R (suc m)))

pub pairs_start : (R : ℕ → ℕ) (m : ℕ) → 0 < R (suc m) → (R m ≡ R (suc m) → ⊥) → pairs R (suc m) ≡ pairs R m ++ (suc m ∷ R (suc m) ∷ [])
pairs_start R m h ne =
    ⊎_elim (λ k. absurd (⊎_elim (λ e. omega arith) (λ e. ne e) k.0))
    (λ k. pairs_suc R m ∙ ap (λ z. pairs R m ++ z) k.2)
    (added_cases (suc m) (R m) (R (suc m)))

-- A size that begins a stretch or none, with what holds in each case.
pub pairs_cases : (R : ℕ → ℕ) (m : ℕ) → (((R (suc m) ≡ 0) ⊎ (R m ≡ R (suc m))) × (pairs R (suc m) ≡ pairs R m)) ⊎ ((0 < R (suc m)) × (R m ≡ R (suc m) → ⊥) × (pairs R (suc m) ≡ pairs R m ++ (suc m ∷ R (suc m) ∷ [])))
pairs_cases R m = ⊎_elim (λ k. inl (k.0, pairs_flat R m k.0)) (λ k. inr (k.0, k.1, pairs_start R m k.0 k.1)) (added_cases (suc m) (R m) (R (suc m)))

-- Later sizes only add at the end.
pub len_le : (R : ℕ → ℕ) (t n : ℕ) → t ≤ n → length (pairs R t) ≤ length (pairs R n)
len_le R t n h = le_ind (λ k. length (pairs R t) ≤ length (pairs R k)) (omega arith) (λ k hk ih. ⊎_elim (λ w. omega (arith, ap length w.1)) (λ w. omega (arith, ap length w.2 ∙ length-append (pairs R k) (suc k ∷ R (suc k) ∷ []))) (pairs_cases R k)) n h

pub prefix : (R : ℕ → ℕ) (t n x : ℕ) → t ≤ n → x < length (pairs R t) → get_or (pairs R n) x 0 ≡ get_or (pairs R t) x 0
prefix R t n x h hx =
    le_ind (λ k. get_or (pairs R k) x 0 ≡ get_or (pairs R t) x 0) refl
    (λ k hk ih. ⊎_elim (λ w. ap (λ l. get_or l x 0) w.1 ∙ ih)
    (λ w. ap (λ l. get_or l x 0) w.2 ∙ get_or-append (pairs R k) (suc k ∷ R (suc k) ∷ []) 0 x (omega (arith, len_le R t k hk)) ∙ ih)
    (pairs_cases R k))
    n h

-- Where size t + 1 begins a stretch, the next two entries are its own.
pub start_at : (R : ℕ → ℕ) (t n : ℕ) → suc t ≤ n → 0 < R (suc t) → (R t ≡ R (suc t) → ⊥) → (get_or (pairs R n) (length (pairs R t)) 0 ≡ suc t) × (get_or (pairs R n) (length (pairs R t) + 1) 0 ≡ R (suc t))
start_at R t n h pos ne =
    let e : pairs R (suc t) ≡ pairs R t ++ (suc t ∷ R (suc t) ∷ []) = pairs_start R t pos ne in
    let el : length (pairs R (suc t)) ≡ length (pairs R t) + 2 = ap length e ∙ length-append (pairs R t) (suc t ∷ R (suc t) ∷ []) in (
      prefix R (suc t) n (length (pairs R t)) h (omega arith) ∙ ap (λ l. get_or l (length (pairs R t)) 0) e ∙ get_or-append_seam (pairs R t) (suc t) (R (suc t) ∷ []) 0,
      prefix R (suc t) n (length (pairs R t) + 1) h (omega arith) ∙ ap (λ l. get_or l (length (pairs R t) + 1) 0) e ∙ get_or-append-add (pairs R t) (suc t ∷ R (suc t) ∷ []) 1 0,
    )

-- The entry after those of sizes 1 to t is 0 or a larger size.
pub next_at : (R : ℕ → ℕ) (t n : ℕ) → t ≤ n → (get_or (pairs R n) (length (pairs R t)) 0 ≡ 0) ⊎ ((t < get_or (pairs R n) (length (pairs R t)) 0) × (get_or (pairs R n) (length (pairs R t)) 0 ≤ n))
next_at R t n h =
    le_ind (λ k. (get_or (pairs R k) (length (pairs R t)) 0 ≡ 0) ⊎ ((t < get_or (pairs R k) (length (pairs R t)) 0) × (get_or (pairs R k) (length (pairs R t)) 0 ≤ k)))
    (inl (get_or-eq_default (pairs R t) 0 (omega arith)))
    (λ k hk ih. ⊎_elim
    (λ w. let e : get_or (pairs R (suc k)) (length (pairs R t)) 0 ≡ get_or (pairs R k) (length (pairs R t)) 0 = ap (λ l. get_or l (length (pairs R t)) 0) w.1 in
    ⊎_elim (λ z. inl (e ∙ z)) (λ z. inr (omega arith, omega arith)) ih)
    (λ w. ⊎_elim
    (λ lt. let e : get_or (pairs R (suc k)) (length (pairs R t)) 0 ≡ get_or (pairs R k) (length (pairs R t)) 0 = ap (λ l. get_or l (length (pairs R t)) 0) w.2 ∙ get_or-append (pairs R k) (suc k ∷ R (suc k) ∷ []) 0 (length (pairs R t)) lt in
    ⊎_elim (λ z. inl (e ∙ z)) (λ z. inr (omega arith, omega arith)) ih)
    (λ ge. let q : length (pairs R t) ≡ length (pairs R k) = omega (arith, len_le R t k hk) in
    let e : get_or (pairs R (suc k)) (length (pairs R t)) 0 ≡ suc k = ap (λ l. get_or (pairs R (suc k)) l 0) q ∙ (start_at R k (suc k) (omega arith) w.0 w.1).0 in
    inr (omega arith, omega arith))
    (lt_cases (length (pairs R t)) (length (pairs R k))))
    (pairs_cases R k))
    n h

-- Up to the next entry, all stays.
pub hold : (R : ℕ → ℕ) (n s : ℕ) → Falling R → (m : ℕ) → s ≤ m → m ≤ n → (get_or (pairs R n) (length (pairs R s)) 0 ≡ 0) ⊎ (m < get_or (pairs R n) (length (pairs R s)) 0) → (length (pairs R m) ≡ length (pairs R s)) × (R m ≡ R s)
hold R n s good m h =
    le_ind (λ k. k ≤ n → (get_or (pairs R n) (length (pairs R s)) 0 ≡ 0) ⊎ (k < get_or (pairs R n) (length (pairs R s)) 0) → (length (pairs R k) ≡ length (pairs R s)) × (R k ≡ R s))
    (λ _ _. (refl, refl))
    (λ k hk ih kn c.
    let ihk : (length (pairs R k) ≡ length (pairs R s)) × (R k ≡ R s) = ih (omega arith) (⊎_elim (λ z. inl z) (λ z. inr (omega arith)) c) in
    ⊎_elim
    (λ w. (ap length w.1 ∙ ihk.0, ⊎_elim (λ z. gone k z ihk.1) (λ z. sym z ∙ ihk.1) w.0))
    (λ w. let e : get_or (pairs R n) (length (pairs R s)) 0 ≡ suc k = ap (λ l. get_or (pairs R n) l 0) (sym ihk.0) ∙ (start_at R k n kn w.0 w.1).0 in
    absurd (⊎_elim (λ z. omega arith) (λ z. omega arith) c))
    (pairs_cases R k))
    m h
  where
    gone : (k : ℕ) → R (suc k) ≡ 0 → R k ≡ R s → R (suc k) ≡ R s
    gone k z e = ⊎_elim (λ pos. absurd (omega (arith, (good.falls k pos).0))) (λ le. omega arith) (lt_cases 0 (R k))

-- Where R is level, nothing is added.
pub level_pairs : (R : ℕ → ℕ) (s e : ℕ) → s ≤ e → Level R s e → pairs R e ≡ pairs R s
level_pairs R s e h lev =
    le_ind (λ k. k ≤ e → pairs R k ≡ pairs R s) (λ _. refl)
    (λ k hk ih ke. pairs_flat R k (inr (lev k hk (omega arith) ∙ sym (lev (suc k) (omega arith) ke))) ∙ ih (omega arith))
    e h (omega arith)

-- The next size of a list at an entry: past the last one where it has no more stretches, else what the entry says.
pub next_none : (xs : List ℕ) (n i : ℕ) → get_or xs i 0 ≡ 0 → next_size xs n i ≡ n + 1
unfolding next_size
next_none xs n i e = simp (eq-eqb (get_or xs i 0) 0 e)

pub next_some : (xs : List ℕ) (n i : ℕ) → (get_or xs i 0 ≡ 0 → ⊥) → next_size xs n i ≡ get_or xs i 0
unfolding next_size
next_some xs n i ne = simp (ne_eqb (get_or xs i 0) 0 ne)

next_entry : (R : ℕ → ℕ) (n t i v x : ℕ) → At R n t i v x → get_or (pairs R n) i 0 ≡ get_or (pairs R n) (length (pairs R t)) 0
next_entry R n t i v x a = ap (λ (k : ℕ). get_or (pairs R n) k 0) a.passed

-- What that is for a cursor.
next_cases : (R : ℕ → ℕ) (n t i v x : ℕ) → t ≤ n → At R n t i v x → ((get_or (pairs R n) i 0 ≡ 0) × (x ≡ n + 1)) ⊎ ((get_or (pairs R n) i 0 ≡ x) × (t < x) × (x ≤ n))
next_cases R n t i v x h a =
    let e = next_entry R n t i v x a in
    ⊎_elim
    (λ z. inl (e ∙ z, a.next ∙ next_none (pairs R n) n i (e ∙ z)))
    (λ w. let ex : x ≡ get_or (pairs R n) i 0 = a.next ∙ next_some (pairs R n) n i (λ z. omega arith) in
    inr (sym ex, omega arith, omega arith))
    (next_at R t n h)

pub at_later : (R : ℕ → ℕ) (n t i v x : ℕ) → t ≤ n → At R n t i v x → (t < x) × (x ≤ n + 1)
at_later R n t i v x h a = ⊎_elim (λ w. (omega arith, omega arith)) (λ w. (omega arith, omega arith)) (next_cases R n t i v x h a)

-- A cursor stands still up to its next size.
pub at_still : (R : ℕ → ℕ) (n t i v x u : ℕ) → Falling R → t ≤ n → At R n t i v x → t ≤ u → u < x → At R n u i v x
at_still R n t i v x u good h a tu ux =
    let e = next_entry R n t i v x a in
    let same = hold R n t good u tu (omega (arith, at_later R n t i v x h a)) (⊎_elim (λ w. inl (sym e ∙ w.0)) (λ w. inr (omega arith)) (next_cases R n t i v x h a)) in
    record { passed = a.passed ∙ sym same.0; place = a.place ∙ sym same.1; next = a.next }

pub at_level : (R : ℕ → ℕ) (n t i v x e : ℕ) → Falling R → t ≤ n → At R n t i v x → e < x → Level R t e
at_level R n t i v x e good h a ex m tm me = sym (at_still R n t i v x m good h a tm (omega arith)).place ∙ a.place

-- What a slice says of the next size, and of a cursor at the beginning.
next_same : (R : ℕ → ℕ) (xs : List ℕ) (n i x : ℕ) → Begins xs R n → i ≤ length (pairs R n) → x ≡ next_size xs n i → x ≡ next_size (pairs R n) n i
unfolding next_size
next_same R xs n i x begins h e = e ∙ ap (λ (z : ℕ). cond (eqb z 0) (n + 1) z) (begins i h)

pub at_first : (R : ℕ → ℕ) (xs : List ℕ) (n x : ℕ) → Falling R → Begins xs R n → x ≡ next_size xs n 0 → At R n 0 0 0 x
at_first R xs n x good begins e = record { passed = sym (ap length (pairs_zero R)); place = omega (arith, good.fits 0); next = next_same R xs n 0 x begins (omega arith) e }

-- Where the next entry is the size after t, the two entries from there on are its own.
pub moves : (R : ℕ → ℕ) (n t i : ℕ) → suc t ≤ n → i ≡ length (pairs R t) → get_or (pairs R n) i 0 ≡ suc t → (i + 2 ≡ length (pairs R (suc t))) × (get_or (pairs R n) (i + 1) 0 ≡ R (suc t))
moves R n t i h ei e =
    ⊎_elim
    (λ w. let q : get_or (pairs R n) (length (pairs R (suc t))) 0 ≡ suc t = ap (λ l. get_or (pairs R n) l 0) (ap length w.1 ∙ sym ei) ∙ e in
    absurd (⊎_elim (λ z. omega arith) (λ z. omega arith) (next_at R (suc t) n h)))
    (λ w. (omega (arith, ei, ap length w.2 ∙ length-append (pairs R t) (suc t ∷ R (suc t) ∷ [])), ap (λ l. get_or (pairs R n) (l + 1) 0) ei ∙ (start_at R t n h w.0 w.1).1))
    (pairs_cases R t)

-- At its next size a cursor moves on by two entries.
pub at_next : (R : ℕ → ℕ) (xs : List ℕ) (n t i v x w y : ℕ) → Falling R → Begins xs R n → t ≤ n → x ≤ n → At R n t i v x → w ≡ get_or xs (i + 1) 0 → y ≡ next_size xs n (i + 2) → At R n x (i + 2) w y
at_next R xs n t i v x w y good begins h hx a ew ey =
    ⊎_elim (λ k. absurd (omega arith))
    (λ k.
    let ex : suc (x - 1) ≡ x = omega arith in
    let before = at_still R n t i v x (x - 1) good h a (omega arith) (omega arith) in
    let m = subst (λ (z : ℕ). (i + 2 ≡ length (pairs R z)) × (get_or (pairs R n) (i + 1) 0 ≡ R z)) ex (moves R n (x - 1) i (omega arith) before.passed (k.0 ∙ sym ex)) in
    let within : i + 2 ≤ length (pairs R n) = omega (arith, m.0, len_le R x n hx) in
    record { passed = m.0; place = ew ∙ begins (i + 1) (omega arith) ∙ m.1; next = next_same R xs n (i + 2) y begins within ey })
    (next_cases R n t i v x h a)

-- Past the end of its slice a cursor has no next size.
pub at_end : (R : ℕ → ℕ) (xs : List ℕ) (n t i v x : ℕ) → Begins xs R n → t ≤ n → length xs ≤ i → At R n t i v x → n < x
at_end R xs n t i v x begins h hi a =
    let e : get_or (pairs R n) i 0 ≡ 0 = sym (begins i (omega (arith, a.passed, len_le R t n h))) ∙ get_or-eq_default xs 0 {n = i} hi in
    ⊎_elim (λ k. omega arith) (λ k. absurd (omega arith)) (next_cases R n t i v x h a)

-- Putting in: a block above p keeps its place, one at p or below goes one lower, and one at the last place is gone.
pub put_low : (p m x : ℕ) → x < p → put_in p m x ≡ x
put_low p m x h = ⊎_elim (λ a. a.1) (⊎_elim (λ a. a.2) (⊎_elim (λ a. omega arith) (λ a. omega arith))) (put_cases p m x)

pub put_high : (p m x : ℕ) → p ≤ x → x < m → put_in p m x ≡ x + 1
put_high p m x h hm = ⊎_elim (λ a. omega arith) (⊎_elim (λ a. omega arith) (⊎_elim (λ a. a.3) (λ a. omega arith))) (put_cases p m x)

pub put_out : (p m x : ℕ) → p ≤ x → x ≡ m → put_in p m x ≡ 0
put_out p m x h hm = ⊎_elim (λ a. omega arith) (⊎_elim (λ a. omega arith) (⊎_elim (λ a. omega arith) (λ a. a.3))) (put_cases p m x)

-- Taking out moves a block by one place at most, and never away.
pub taken_le : (j l : ℕ) → taken_out j l ≤ l
taken_le j l = ⊎_elim (λ w. omega arith) (⊎_elim (λ w. omega arith) (λ w. omega arith)) (taken_cases j l)

pub taken_pos : (j l : ℕ) → 0 < l → 0 < taken_out j l
taken_pos j l h = ⊎_elim (λ w. omega arith) (⊎_elim (λ w. omega arith) (λ w. omega arith)) (taken_cases j l)

-- A later size, with the read block no lower (or only now there) and the other no lower.
pub taken_mono : (j l j2 l2 : ℕ) → (j ≡ 0) ⊎ ((0 < j2) × (j2 ≤ j)) → l2 ≤ l → taken_out j2 l2 ≤ taken_out j l
taken_mono j l j2 l2 hj hl =
    ⊎_elim (λ w. omega (arith, taken_le j2 l2))
    (⊎_elim
    (λ w. ⊎_elim (λ z. omega arith)
    (λ z. ⊎_elim (λ u. omega arith) (⊎_elim (λ u. omega arith) (λ u. omega arith)) (taken_cases j2 l2)) hj)
    (λ w. omega (arith, taken_le j2 l2)))
    (taken_cases j l)

-- The rule at sizes where both lists stand still.
pub steady : (j p s m l : ℕ) → 0 < p → l ≤ s → s ≤ m → (l ≡ 0) ⊎ (0 < put_in p s (taken_out j l)) → put_in p m (taken_out j l) ≡ put_in p s (taken_out j l)
steady j p s m l hp hl hm c =
    ⊎_elim
    (λ low. put_low p m (taken_out j l) low ∙ sym (put_low p s (taken_out j l) low))
    (λ high. ⊎_elim (λ lt. put_high p m (taken_out j l) high (omega arith) ∙ sym (put_high p s (taken_out j l) high lt))
    (λ ge. absurd (⊎_elim (λ z. omega (arith, taken_le j l)) (λ z. omega (arith, taken_le j l, put_out p s (taken_out j l) high (omega (arith, taken_le j l)))) c))
    (lt_cases (taken_out j l) s))
    (lt_cases (taken_out j l) p)

pub after_level : (J L : ℕ → ℕ) (p s e : ℕ) → 0 < p → L s ≤ s → Level J s e → Level L s e → (L s ≡ 0) ⊎ (0 < other_after J p L s) → Level (other_after J p L) s e
unfolding other_after
after_level J L p s e hp hl lj ll c m hs he = rw (lj m hs he, ll m hs he) (steady (J s) p s m (L s) hp hl hs c)

-- The new places are a block's places again.
pub after_good : (J L : ℕ → ℕ) (p : ℕ) → 0 < p → Falling J → Falling L → Falling (other_after J p L)
unfolding other_after
after_good J L p hp gj gl = record { fits = within; falls = stays }
  where
    within : (m : ℕ) → put_in p m (taken_out (J m) (L m)) ≤ m
    within m =
        let a : taken_out (J m) (L m) ≤ L m = taken_le (J m) (L m) in
        let b : L m ≤ m = gl.fits m in
        ⊎_elim (λ w. omega arith) (⊎_elim (λ w. omega arith) (⊎_elim (λ w. omega arith) (λ w. omega arith))) (put_cases p m (taken_out (J m) (L m)))

    -- a block that is there after the read was there before it
    was : (m : ℕ) → 0 < put_in p m (taken_out (J m) (L m)) → 0 < L m
    was m h = ⊎_elim (λ pos. pos) (λ z. absurd (omega (arith, taken_le (J m) (L m), put_low p m (taken_out (J m) (L m)) (omega (arith, taken_le (J m) (L m)))))) (lt_cases 0 (L m))

    read : (m : ℕ) → (J m ≡ 0) ⊎ ((0 < J (suc m)) × (J (suc m) ≤ J m))
    read m = ⊎_elim (λ pos. inr (gj.falls m pos)) (λ z. inl (omega arith)) (lt_cases 0 (J m))

    stays : (m : ℕ) → 0 < put_in p m (taken_out (J m) (L m)) → (0 < put_in p (suc m) (taken_out (J (suc m)) (L (suc m)))) × (put_in p (suc m) (taken_out (J (suc m)) (L (suc m))) ≤ put_in p m (taken_out (J m) (L m)))
    stays m h =
        let pos : 0 < L m = was m h in
        let s : (0 < L (suc m)) × (L (suc m) ≤ L m) = gl.falls m pos in
        let x : taken_out (J (suc m)) (L (suc m)) ≤ taken_out (J m) (L m) = taken_mono (J m) (L m) (J (suc m)) (L (suc m)) (read m) s.1 in
        let y : 0 < taken_out (J (suc m)) (L (suc m)) = taken_pos (J (suc m)) (L (suc m)) s.0 in
        let z : taken_out (J m) (L m) ≤ m = omega (arith, taken_le (J m) (L m), gl.fits m) in
        ⊎_elim
        (λ low. let e = put_low p (suc m) (taken_out (J (suc m)) (L (suc m))) low in
        ⊎_elim (λ w. omega arith) (⊎_elim (λ w. omega arith) (⊎_elim (λ w. omega arith) (λ w. absurd (omega arith)))) (put_cases p m (taken_out (J m) (L m))))
        (λ high. let e = put_high p (suc m) (taken_out (J (suc m)) (L (suc m))) high (omega arith) in
        ⊎_elim (λ w. omega arith) (⊎_elim (λ w. omega arith) (⊎_elim (λ w. omega arith) (λ w. absurd (omega arith)))) (put_cases p m (taken_out (J m) (L m))))
        (lt_cases (taken_out (J (suc m)) (L (suc m))) p)

-- The size s after t, by its own name.
pub start_s : (R : ℕ → ℕ) (t s : ℕ) → s ≡ suc t → 0 < R s → (R t ≡ R s → ⊥) → pairs R s ≡ pairs R t ++ (s ∷ R s ∷ [])
start_s R t s es = subst (λ (z : ℕ). 0 < R z → (R t ≡ R z → ⊥) → pairs R z ≡ pairs R t ++ (z ∷ R z ∷ [])) (sym es) (pairs_start R t)

pub flat_s : (R : ℕ → ℕ) (t s : ℕ) → s ≡ suc t → (R s ≡ 0) ⊎ (R t ≡ R s) → pairs R s ≡ pairs R t
flat_s R t s es = subst (λ (z : ℕ). (R z ≡ 0) ⊎ (R t ≡ R z) → pairs R z ≡ pairs R t) (sym es) (pairs_flat R t)

-- What stands is kept, under another size with the same list.
pub listed_eq : (out : List ℕ) (q : ℕ) (R : ℕ → ℕ) (t s : ℕ) → pairs R s ≡ pairs R t → ListedUpTo out q R t → ListedUpTo out q R s
listed_eq out q R t s e w = record { count = w.count ∙ ap length (sym e); same = λ x h. w.same x h ∙ ap (λ l. get_or l x 0) (sym e) }

-- A pair is written.
pub listed_more : (out : List ℕ) (q : ℕ) (R : ℕ → ℕ) (t s r : ℕ) → q + 2 ≤ length out → r ≡ R s → pairs R s ≡ pairs R t ++ (s ∷ R s ∷ []) → ListedUpTo out q R t → ListedUpTo (set (set out q s) (q + 1) r) (q + 2) R s
listed_more out q R t s r fits er e w = record { count = omega (arith, w.count, el); same = same }
  where
    el : length (pairs R s) ≡ length (pairs R t) + 2
    el = ap length e ∙ length-append (pairs R t) (s ∷ R s ∷ [])

    same : (x : ℕ) → x < q + 2 → get_or (set (set out q s) (q + 1) r) x 0 ≡ get_or (pairs R s) x 0
    same x h =
        ⊎_elim
        (λ lt. get_or-set_other (set out q s) (q + 1) x r 0 (λ z. omega arith) ∙ get_or-set_other out q x s 0 (λ z. omega arith) ∙ w.same x lt
        ∙ sym (ap (λ l. get_or l x 0) e ∙ get_or-append (pairs R t) (s ∷ R s ∷ []) 0 x (omega (arith, w.count))))
        (λ ge. ⊎_elim
        (λ z. let xl : x ≡ length (pairs R t) = z ∙ w.count in
        get_or-set_other (set out q s) (q + 1) x r 0 (λ y. omega arith) ∙ ap (λ k. get_or (set out q s) k 0) z ∙ get_or-set_same out q s 0 (omega arith)
        ∙ sym (ap (λ k. get_or (pairs R s) k 0) xl ∙ ap (λ l. get_or l (length (pairs R t)) 0) e ∙ get_or-append_seam (pairs R t) s (R s ∷ []) 0))
        (λ ne. let xq : x ≡ q + 1 = omega (arith, ne) in
        let xl : x ≡ length (pairs R t) + 1 = omega (arith, w.count) in
        ap (λ k. get_or (set (set out q s) (q + 1) r) k 0) xq ∙ get_or-set_same (set out q s) (q + 1) r 0 (omega (arith, length-set out q s)) ∙ er
        ∙ sym (ap (λ k. get_or (pairs R s) k 0) xl ∙ ap (λ l. get_or l (length (pairs R t) + 1) 0) e ∙ get_or-append-add (pairs R t) (s ∷ R s ∷ []) 1 0))
        (eq_cases x q))
        (lt_cases x q)

-- A block that is absent before a read is so after it.
pub after_absent : (J : ℕ → ℕ) (p : ℕ) (L : ℕ → ℕ) (m : ℕ) → 0 < p → L m ≡ 0 → other_after J p L m ≡ 0
unfolding other_after
after_absent J p L m hp none =
    let e : taken_out (J m) (L m) ≡ 0 = omega (arith, taken_le (J m) (L m), none) in
    ap (put_in p m) e ∙ put_low p m 0 hp

-- What the merge has done once the sizes up to t are done.
pub record Merging (J L : ℕ → ℕ) (p n : ℕ) (out : List ℕ) (t q last xi xv x yi yv y : ℕ) : Type 0 where
  pub within : t ≤ n
  pub read : At J n t xi xv x
  pub other : At L n t yi yv y
  pub done : ListedUpTo out q (other_after J p L) t
  pub place : last ≡ other_after J p L t

-- Before the other's first size y there is nothing to do.
pub merging_first : (J L : ℕ → ℕ) (p n : ℕ) (out : List ℕ) (t xi xv x yi yv y : ℕ) → 0 < p → Falling L → t ≡ y - 1 → At L n 0 yi yv y → At J n t xi xv x → Merging J L p n out t 0 0 xi xv x yi yv y
merging_first J L p n out t xi xv x yi yv y hp gl et first a =
    let later = at_later L n 0 yi yv y (omega arith) first in
    let none : (m : ℕ) → m ≤ t → other_after J p L m ≡ 0 = λ m h. after_absent J p L m hp (sym (at_still L n 0 yi yv y m gl (omega arith) first (omega arith) (omega arith)).place ∙ first.place ∙ omega (arith, gl.fits 0)) in
    let same : pairs (other_after J p L) t ≡ [] = level_pairs (other_after J p L) 0 t (omega arith) (λ m h0 hm. none m hm ∙ sym (none 0 (omega arith))) ∙ pairs_zero (other_after J p L) in
    record {
      within = omega arith;
      read = a;
      other = at_still L n 0 yi yv y t gl (omega arith) first (omega arith) (omega arith);
      done = record { count = sym (ap length same); same = λ k h. absurd (omega arith) };
      place = sym (none t (omega arith));
    }

-- Up to size e the new places stand still where both cursors do, but where the block is pushed out of size s.
new_level : (J L : ℕ → ℕ) (p s e r l : ℕ) → 0 < p → Falling L → l ≡ L s → r ≡ other_after J p L s → (r ≡ 0 → 0 < l → e ≡ s) → Level J s e → Level L s e → Level (other_after J p L) s e
new_level J L p s e r l hp gl el er pushed lj ll =
    ⊎_elim (λ pos. after_level J L p s e hp (gl.fits s) lj ll (inr (omega arith)))
    (λ out. ⊎_elim (λ there m hs he. ap (other_after J p L) (omega (arith, pushed (omega arith) there))) (λ none. after_level J L p s e hp (gl.fits s) lj ll (inl (omega arith))) (lt_cases 0 l))
    (lt_cases 0 r)

pub merging_next : (J L : ℕ → ℕ) (p n : ℕ) (out : List ℕ) (s e q r xi xv x yi yv y : ℕ) → 0 < p → Falling J → Falling L → s ≤ n → s ≤ e → (s < x → e < x) × (s < y → e < y) → (r ≡ 0 → 0 < yv → e ≡ s) → At J n s xi xv x → At L n s yi yv y → ListedUpTo out q (other_after J p L) s → r ≡ other_after J p L s → Merging J L p n out e q r xi xv x yi yv y
merging_next J L p n out s e q r xi xv x yi yv y hp gj gl hs h still pushed a b w er =
    let ax = at_later J n s xi xv x hs a in
    let ex : e < x = still.0 ax.0 in
    let ey : e < y = still.1 (at_later L n s yi yv y hs b).0 in
    let lev = new_level J L p s e r yv hp gl b.place er pushed (at_level J n s xi xv x e gj hs a ex) (at_level L n s yi yv y e gl hs b ey) in
    record {
      within = omega arith;
      read = at_still J n s xi xv x e gj hs a h ex;
      other = at_still L n s yi yv y e gl hs b h ey;
      done = listed_eq out q (other_after J p L) s e (level_pairs (other_after J p L) s e h lev) w;
      place = er ∙ sym (lev e h (omega arith));
    }

pub rule_after : (J L : ℕ → ℕ) (p n s r xi xv x yi yv y : ℕ) → At J n s xi xv x → At L n s yi yv y → r ≡ put_in p s (taken_out xv yv) → r ≡ other_after J p L s
unfolding other_after
rule_after J L p n s r xi xv x yi yv y a b e = e ∙ ap (λ (z : ℕ). put_in p s (taken_out z yv)) a.place ∙ ap (λ (z : ℕ). put_in p s (taken_out (J s) z)) b.place

-- At the end: the stretches, and zeros after them.
pub holds_all : (out last : List ℕ) (q : ℕ) (R : ℕ → ℕ) (n : ℕ) → ListedUpTo out q R n → ((x : ℕ) → x < q → get_or last x 0 ≡ get_or out x 0) → ((x : ℕ) → q ≤ x → get_or last x 0 ≡ 0) → Holds last R n
holds_all out last q R n w below above x = ⊎_elim (λ lt. below x lt ∙ w.same x lt) (λ ge. above x ge ∙ sym (get_or-eq_default (pairs R n) 0 (omega (arith, w.count)))) (lt_cases x q)
