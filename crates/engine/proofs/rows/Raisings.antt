-- Lists that go one place up the card as they are.
use mathlib.Core.Path.{◌≡◌, refl, sym, ap, ◌∙◌}
use mathlib.Core.Logic.{◌≢◌, inl, inr, ⊎_elim}
use mathlib.Core.List.{List, [], ◌∷◌, ◌++◌}
use Prim.Native.Nat.{ℕ, zero, suc, ◌+◌, ◌-◌, ◌*◌, ◌/◌, ◌≤◌, ◌<◌}
use native.Mathlib.Omega.{arith}
use lib.ListN.{length, get_or, set, length-set}
use lib.Seq.{get_or-set_same, get_or-set_other}
use Rattle.card.specs.Stretches.{stretches}
use Rattle.card.specs.Falling.{Falling}
use Rattle.card.proofs.Tests.{by_lt, by_eq}
use Rattle.card.specs.Moves.{taken_out, put_in}
use Rattle.engine.specs.Moves.{other_after, Raised}
use Rattle.engine.specs.Rows.{pairs, Row}
use Rattle.engine.specs.RowMoves.{InArea, Kept}
use Rattle.engine.specs.declared.rows.Span.{Span}
use Rattle.engine.proofs.lists.PairLaws.{taken_cases, put_low, pairs_zero, pairs_flat, pairs_start, pairs_cases, after_absent}
use Rattle.engine.proofs.ListedStretches.{length_pairs}
use Rattle.engine.proofs.lists.PairFacts.{falls, entries, in_list}
use Rattle.engine.proofs.rows.RowLaws.{kept_same}
use Rattle.engine.proofs.rows.RowSkips.{first_bound}

-- ---- each place one less

abbrev lessened : List ℕ → List ℕ
lessened [] = []
lessened (first ∷ []) = first ∷ []
lessened (first ∷ place ∷ list) = first ∷ (place - 1) ∷ lessened list

lessened_append : (k : ℕ) (xs ys : List ℕ) → length xs ≡ k + k → lessened (xs ++ ys) ≡ lessened xs ++ lessened ys
lessened_append zero [] ys e = refl
lessened_append zero (x ∷ xs) ys e = absurd (omega arith)
lessened_append (suc k) [] ys e = absurd (omega arith)
lessened_append (suc k) (x ∷ []) ys e = absurd (omega arith)
lessened_append (suc k) (x ∷ y ∷ xs) ys e = ap (λ (l : List ℕ). x ∷ (y - 1) ∷ l) (lessened_append k xs ys (omega arith))

lessened_length : (xs : List ℕ) → length (lessened xs) ≡ length xs
lessened_length [] = refl
lessened_length (x ∷ []) = refl
lessened_length (x ∷ y ∷ xs) = ap (λ (k : ℕ). suc (suc k)) (lessened_length xs)

-- twice i, by steps of two
abbrev twice : ℕ → ℕ
twice zero = zero
twice (suc i) = suc (suc (twice i))

twice_is : (i : ℕ) → twice i ≡ 2 * i
twice_is zero = refl
twice_is (suc i) = omega (arith, twice_is i)

first_same : (xs : List ℕ) (i : ℕ) → get_or (lessened xs) (twice i) 0 ≡ get_or xs (twice i) 0
first_same [] i = refl
first_same (x ∷ []) i = refl
first_same (x ∷ y ∷ xs) zero = refl
first_same (x ∷ y ∷ xs) (suc i) = first_same xs i

place_less : (xs : List ℕ) (i : ℕ) → get_or (lessened xs) (suc (twice i)) 0 ≡ get_or xs (suc (twice i)) 0 - 1
place_less [] i = refl
place_less (x ∷ []) i = refl
place_less (x ∷ y ∷ xs) zero = refl
place_less (x ∷ y ∷ xs) (suc i) = place_less xs i

-- the list of a block that goes up
pairs_lessened : (R S : ℕ → ℕ) (n : ℕ) → Raised R S n → pairs R n ≡ lessened (pairs S n)
pairs_lessened R S zero up = pairs_zero R ∙ sym (ap lessened (pairs_zero S))
pairs_lessened R S (suc n) up =
    let here = up (suc n) (omega arith) in
    let before = up n (omega arith) in
    let so_far = pairs_lessened R S n (λ m h. up m (omega arith)) in
    ⊎_elim
    (λ flat. pairs_flat R n (⊎_elim (λ z. inl (omega (arith, here.0))) (λ z. inr (omega (arith, here.0, before.0))) flat.0) ∙ so_far ∙ sym (ap lessened flat.1))
    (λ start.
    pairs_start R n (omega (arith, here, start.0)) (λ z. start.1 (omega (arith, here, before, start.0)))
    ∙ ap (λ (l : List ℕ). l ++ (suc n ∷ R (suc n) ∷ [])) so_far
    ∙ ap (λ (k : ℕ). lessened (pairs S n) ++ (suc n ∷ k ∷ [])) here.0
    ∙ sym (lessened_append (stretches S n) (pairs S n) (suc n ∷ S (suc n) ∷ []) (omega (arith, length_pairs S n)))
    ∙ sym (ap lessened start.2))
    (pairs_cases S n)

module _ (R S : ℕ → ℕ) (n : ℕ) (up : Raised R S n) where
  raised_length : length (pairs R n) ≡ length (pairs S n)
  raised_length = ap length (pairs_lessened R S n up) ∙ lessened_length (pairs S n)

  pub raised_stretches : stretches R n ≡ stretches S n
  raised_stretches = omega (arith, length_pairs R n, length_pairs S n, raised_length)

  raised_first : (i : ℕ) → get_or (pairs R n) (2 * i) 0 ≡ get_or (pairs S n) (2 * i) 0
  raised_first i = ap (λ (l : List ℕ). get_or l (2 * i) 0) (pairs_lessened R S n up) ∙ rw (sym (twice_is i)) (first_same (pairs S n) i)

  raised_place : (i : ℕ) → get_or (pairs R n) (2 * i + 1) 0 ≡ get_or (pairs S n) (2 * i + 1) 0 - 1
  raised_place i =
      let e : 2 * i + 1 ≡ suc (twice i) = omega (arith, twice_is i) in
      ap (λ (l : List ℕ). get_or l (2 * i + 1) 0) (pairs_lessened R S n up) ∙ rw e (place_less (pairs S n) i)

-- ---- the sweep over a list

-- h stretches have gone to an index before the row
pub record Raising (area₀ area : List ℕ) (from : Span) (to h : ℕ) : Type 0 where
  pub inside : 2 * h ≤ from.room
  pub kept : Kept area₀ area to (2 * h)
  pub firsts : (x : ℕ) → x < h → get_or area (to + 2 * x) 0 ≡ get_or area₀ (from.start + 2 * x) 0
  pub places : (x : ℕ) → x < h → get_or area (to + 2 * x + 1) 0 ≡ get_or area₀ (from.start + 2 * x + 1) 0 - 1
  pub some : (x : ℕ) → x < h → 0 < get_or area₀ (from.start + 2 * x + 1) 0

module _ (area₀ area : List ℕ) (from : Span) (to h : ℕ) (raising : Raising area₀ area from to h) where
  -- the list has no more
  module _ (end : 2 * h + 1 < from.room → get_or area₀ (from.start + 2 * h + 1) 0 ≡ 0) (R S : ℕ → ℕ) (n : ℕ) (up : Raised R S n) (row : Row area₀ from (pairs S n)) where
    entry : (y z : ℕ) → z ≡ from.start + y → y < from.room → get_or area₀ z 0 ≡ get_or (pairs S n) y 0
    entry y z e l = ap (λ (i : ℕ). get_or area₀ i 0) e ∙ row.same y l

    least : 2 * h ≤ length (pairs S n)
    least = by_lt 0 h
        (λ pos. omega (arith, in_list S n (2 * (h - 1) + 1) (omega (arith, raising.some (h - 1) (omega arith), entry (2 * (h - 1) + 1) (from.start + 2 * (h - 1) + 1) (omega arith) (omega (arith, raising.inside))))))
        (λ none. omega arith)

    most : length (pairs S n) ≤ 2 * h
    most = by_lt (2 * h) (length (pairs S n))
        (λ more. absurd (omega (arith, entries S n (2 * h + 1) (omega (arith, length_pairs S n)), entry (2 * h + 1) (from.start + 2 * h + 1) (omega arith) (omega (arith, length_pairs S n, row.fits)), end (omega (arith, length_pairs S n, row.fits)))))
        (λ le. le)

    pub raising_all : (2 * h ≡ length (pairs R n)) × ((q : ℕ) → q < 2 * h → get_or area (to + q) 0 ≡ get_or (pairs R n) q 0)
    raising_all = (omega (arith, least, most, raised_length R S n up), λ q l. by_eq q (2 * (q / 2)) (λ e. even q (q / 2) l e) (λ e. odd q (q / 2) l (omega (arith, e))))
      where
        even : (q x : ℕ) → q < 2 * h → q ≡ 2 * x → get_or area (to + q) 0 ≡ get_or (pairs R n) q 0
        even q x l e = rw e (raising.firsts x (omega arith) ∙ entry (2 * x) (from.start + 2 * x) refl (omega (arith, raising.inside)) ∙ sym (raised_first R S n up x))

        odd : (q x : ℕ) → q < 2 * h → q ≡ 2 * x + 1 → get_or area (to + q) 0 ≡ get_or (pairs R n) q 0
        odd q x l e =
            let assoc : to + (2 * x + 1) ≡ to + 2 * x + 1 = omega arith in
            rw e (ap (λ (i : ℕ). get_or area i 0) assoc ∙ raising.places x (omega arith)
            ∙ omega (arith, entry (2 * x + 1) (from.start + 2 * x + 1) (omega arith) (omega (arith, raising.inside)), raised_place R S n up x))

-- ---- which lists go up

-- the block read was above it wherever it is, and it is put in below or at its first place
pub raised_after : (J S : ℕ → ℕ) (p n j s start place first highest : ℕ) → 0 < p → Falling J → Falling S → S n ≡ s → j ≡ J n → 0 < j → start ≡ get_or (pairs J n) 0 0 → place ≡ get_or (pairs J n) 1 0
    → first ≡ get_or (pairs S n) 0 0 → highest ≡ get_or (pairs S n) 1 0 → place < s → start ≤ first → highest ≤ p → Raised (other_after J p S) S n
unfolding other_after
raised_after J S p n j s start place first highest pos gj gs es ej some estart eplace efirst ehigh ps sf hp m hm = by_lt 0 (S m)
    (λ there.
    let d = first_bound J n n gj (omega arith) (omega arith) in
    let b = first_bound S n m gs hm there in
    let f = falls J gj (get_or (pairs J n) 0 0) m (omega (arith, b.1)) (omega (arith, d.2, d.3)) in
    let g = falls S gs m n hm there in
    let above : J m < S m = omega (arith, f.1, d.2, g.1) in
    let t : taken_out (J m) (S m) ≡ S m - 1 = ⊎_elim (λ w. absurd (omega (arith, f.0))) (⊎_elim (λ w. w.2) (λ w. absurd (omega (arith, above)))) (taken_cases (J m) (S m)) in
    (ap (put_in p m) t ∙ put_low p m (S m - 1) (omega (arith, b.3)), λ z. omega (arith, f.0)))
    (λ none. let z : S m ≡ 0 = omega arith in (after_absent J p S m pos z ∙ omega arith, λ y. omega arith))
