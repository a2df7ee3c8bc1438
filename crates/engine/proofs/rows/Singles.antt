-- Lists of one stretch, and how a read moves them.
use mathlib.Core.Path.{◌≡◌, sym, ap, ◌∙◌}
use mathlib.Core.Logic.{◌⊎◌, ⊎_elim}
use mathlib.Core.Bool.{cond}
use mathlib.Core.List.{List, [], ◌∷◌}
use Prim.Native.Nat.{ℕ, ◌+◌, ◌≤◌, ◌<◌}
use native.Mathlib.Omega.{arith}
use lib.Dec.{eqb}
use lib.ListN.{length, get_or}
use Rattle.card.specs.Stretches.{stretches}
use Rattle.card.proofs.Tests.{by_lt, by_eq, tests}
use Rattle.card.specs.Falling.{Falling}
use Rattle.card.specs.Moves.{taken_out, put_in}
use Rattle.engine.specs.Moves.{other_after}
use Rattle.engine.specs.Rows.{pairs, Row}
use Rattle.engine.specs.declared.rows.Span.{Span}
use Rattle.engine.proofs.lists.PairLaws.{taken_cases, taken_le, put_low, put_high, put_out}
use Rattle.engine.proofs.ListedStretches.{length_pairs}
use Rattle.engine.proofs.lists.PairFacts.{pairs_one, falls}
use Rattle.engine.proofs.rows.RowLaws.{row_first}
use Rattle.engine.proofs.rows.RowSkips.{first_bound}

module _ (L : ℕ → ℕ) (n c l : ℕ) where
  -- absent below size c, and at place l from there on
  pub record Single : Type 0 where
    pub some : 0 < c
    pub in_sizes : c ≤ n
    pub place : 0 < l
    pub within : l ≤ c
    pub low : (m : ℕ) → m < c → L m ≡ 0
    pub high : (m : ℕ) → c ≤ m → m ≤ n → L m ≡ l

  -- its first place is its last, so it is there at every size between
  single : Falling L → c ≡ get_or (pairs L n) 0 0 → l ≡ get_or (pairs L n) 1 0 → L n ≡ l → 0 < l → Single
  single fall ec el en pos =
      let b = first_bound L n n fall (omega arith) (omega arith) in
      let at : L c ≡ l = ap L ec ∙ sym b.2 ∙ sym el in
      record {
        some = omega (arith, b.0);
        in_sizes = omega (arith, b.1);
        place = pos;
        within = omega (arith, fall.fits c);
        low = λ m h. by_lt 0 (L m) (λ lt. absurd (omega (arith, (first_bound L n m fall (omega (arith, b.1)) lt).1))) (λ le. omega arith);
        high = λ m h hm. let f = falls L fall c m h (omega arith) in omega (arith, f.1, (falls L fall m n hm f.0).1);
      }

  single_pairs : Single → pairs L n ≡ c ∷ l ∷ []
  single_pairs one = pairs_one L n c l one.some one.in_sizes one.place one.low one.high

  -- as many stretches as any other list of one
  pub stretches_still : Single → (R : ℕ → ℕ) (x y : ℕ) → pairs R n ≡ x ∷ y ∷ [] → stretches R n ≡ stretches L n
  stretches_still one R x y e = omega (arith, length_pairs R n, ap length e, length_pairs L n, ap length (single_pairs one))

-- by the first two numbers of its row
pub single_row : (area : List ℕ) (row : Span) (n s : ℕ) (L : ℕ → ℕ) → 2 ≤ row.room → 0 < s → get_or area (row.start + 1) 0 ≡ s → L n ≡ s → Falling L → Row area row (pairs L n) → Single L n (get_or area row.start 0) s
single_row area row n s L wide pos es en fall held =
    single L n (get_or area row.start 0) s fall (row_first area row n L (omega arith) held) (sym es ∙ held.same 1 (omega arith)) en pos

module _ (J L : ℕ → ℕ) (p n j c l : ℕ) (pos : 0 < p) (fall : Falling J) (ej : j ≡ J n) (one : Single L n c l) where
  -- where it is absent it stays so
  after_low : (m : ℕ) → m < c → other_after J p L m ≡ 0
  unfolding other_after
  after_low m h =
      let t : taken_out (J m) (L m) ≡ 0 = omega (arith, taken_le (J m) (L m), one.low m h) in
      ap (put_in p m) t ∙ put_low p m 0 pos

  after_high : (m x : ℕ) → c ≤ m → m ≤ n → taken_out (J m) l ≡ x → other_after J p L m ≡ put_in p m x
  unfolding other_after
  after_high m x a b e = ap (put_in p m) (ap (taken_out (J m)) (one.high m a b) ∙ e)

  -- the block read is nowhere above it
  taken_none : (j ≡ 0) ⊎ (l < j) → (m : ℕ) → m ≤ n → taken_out (J m) l ≡ l
  taken_none h m hm = ⊎_elim (λ w. w.1)
      (⊎_elim (λ w. let f = falls J fall m n hm w.0 in absurd (⊎_elim (λ z. omega (arith, f.0)) (λ z. omega (arith, f.1)) h)) (λ w. w.2))
      (taken_cases (J m) l)

  -- it goes one place down the card, and out of a card that it was the last of
  pub pairs_lowered : (j ≡ 0) ⊎ (l < j) → p ≤ l → l < n → pairs (other_after J p L) n ≡ cond (eqb c l) (c + 1) c ∷ (l + 1) ∷ []
  pairs_lowered h pl ln = by_eq c l
      (λ e. let le : c + 1 ≤ n = omega arith in simp tests (pairs_one (other_after J p L) n (c + 1) (l + 1) (omega arith) le (omega arith)
      (λ m lt. by_lt m c (λ below. after_low m below) (λ ge. here m ge (omega (arith, one.in_sizes)) ∙ put_out p m l pl (omega arith)))
      (λ m le hm. here m (omega arith) hm ∙ put_high p m l pl (omega arith))))
      (λ ne. simp tests (pairs_one (other_after J p L) n c (l + 1) one.some one.in_sizes (omega arith)
      after_low
      (λ m le hm. here m le hm ∙ put_high p m l pl (omega (arith, one.within, ne)))))
    where
      here : (m : ℕ) → c ≤ m → m ≤ n → other_after J p L m ≡ put_in p m l
      here m a b = after_high m l a b (taken_none h m b)
