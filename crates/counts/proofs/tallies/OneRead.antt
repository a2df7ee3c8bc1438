-- One read in the tallies: at each size the sums gain what the read's outcome there asks for.
use mathlib.Core.Path.{◌≡◌, refl, sym, ap, ◌∙◌}
use mathlib.Core.Bool.{cond}
use mathlib.Core.List.{List}
use Prim.Native.Nat.{ℕ, ◌+◌, ◌-◌, ◌%◌, ◌≤◌, ◌<◌, max}
use native.Mathlib.Omega.{arith}
use lib.Dec.{leb, eqb}
use lib.ListN.{length, get_or}
use Rattle.card.specs.Rule.{outcome}
use Rattle.card.specs.Falling.{Falling}
use Rattle.card.proofs.Tests.{by_lt, by_eq, tests, bit}
use Rattle.card.proofs.OutcomeCases.{by_outcome}
use Rattle.card.proofs.Outcomes.{same}
use Rattle.counts.specs.Columns.{columns, counts_length}
use Rattle.counts.specs.Tallies.{up_to, SumsGive, is_outcome}
use Rattle.counts.specs.TallySteps.{bumped, begun, GrownBy, PresentFrom, PartsBegin, ReadTallied}
use Rattle.counts.proofs.tallies.Sums.{sums_same, sums_add}
use Rattle.counts.proofs.tallies.Bumps.{length_bumped, bumped_other, bumped_small, up_to_same, up_to_other}

-- ---- one tally

-- one more in tally k from size x on
record Bump (c d : List ℕ) (n k x : ℕ) : Type 0 where
  is : d ≡ bumped c n k x
  long : counts_length n ≤ length c
  some : 1 ≤ x
  column : k < columns

-- what the sum of a column gains with it
abbrev gain : (k x i m : ℕ) → ℕ
gain k x i m = cond (eqb i k) (bit (leb x m)) 0

module _ {c d : List ℕ} {n k x : ℕ} (bump : Bump c d n k x) where
  gains : (m : ℕ) → m ≤ n → (i : ℕ) → i < columns → up_to d i m ≡ up_to c i m + gain k x i m
  gains m h i l =
      rw bump.is (by_eq i k
      (λ e. simp tests (rw e (up_to_same c n k x bump.long bump.some bump.column m h)))
      (λ e. simp tests (omega (arith, up_to_other c n k x bump.long bump.some bump.column i l e m))))

  small : GrownBy 1 c d
  small q = rw bump.is (bumped_small c n k x bump.long bump.some bump.column q)

  -- the cells of the other tallies keep their values
  aside : (q : ℕ) → (q % columns ≡ k → ⊥) → get_or d q 0 ≡ get_or c q 0
  aside q ne = let column = bump.column in rw bump.is (bumped_other c n k x q (λ e. ne (omega arith)))

-- ---- the four of a read

-- tallies k and l, and then 1 and 2
record Four (c d : List ℕ) (n k x l y t u : ℕ) : Type 0 where
  once : List ℕ
  twice : List ℕ
  thrice : List ℕ
  first : Bump c once n k x
  second : Bump once twice n l y
  third : Bump twice thrice n 1 t
  fourth : Bump thrice d n 2 u

module _ {c d : List ℕ} {n k x l y t u : ℕ} (steps : Four c d n k x l y t u) where
  -- what the sums of a size gain in all
  all_gains : (m : ℕ) → m ≤ n → (i : ℕ) → i < columns → up_to d i m ≡ up_to c i m + (gain k x i m + gain l y i m + gain 1 t i m + gain 2 u i m)
  all_gains m h i low =
      omega (arith, gains steps.first m h i low, gains steps.second m h i low, gains steps.third m h i low, gains steps.fourth m h i low)

  -- no cell is met twice
  all_small : 3 ≤ k → (l ≡ 1 → ⊥) → (l ≡ 2 → ⊥) → (l ≡ k → ⊥) → GrownBy 1 c d
  all_small k₃ l₁ l₂ lk q =
      by_eq (q % columns) 2
      (λ e. omega (arith, small steps.fourth q, aside steps.third q (λ f. omega arith), aside steps.second q (λ f. omega arith), aside steps.first q (λ f. omega arith)))
      (λ d₂. by_eq (q % columns) 1
      (λ e. omega (arith, aside steps.fourth q d₂, small steps.third q, aside steps.second q (λ f. omega arith), aside steps.first q (λ f. omega arith)))
      (λ d₁. by_eq (q % columns) l
      (λ e. omega (arith, aside steps.fourth q d₂, aside steps.third q d₁, small steps.second q, aside steps.first q (λ f. lk (sym e ∙ f))))
      (λ dₗ. omega (arith, aside steps.fourth q d₂, aside steps.third q d₁, aside steps.second q dₗ, small steps.first q))))

-- ---- what they say at a size

-- a test on an order as a number
on : (s m : ℕ) → s ≤ m → bit (leb s m) ≡ 1
on s m h = simp tests

off : (s m : ℕ) → m < s → bit (leb s m) ≡ 0
off s m h = simp tests

-- what counts from a size on counts where another does that begins later
sooner : (s t m : ℕ) → s ≤ t → bit (leb t m) ≤ bit (leb s m)
sooner s t m h = by_lt m t (λ l. omega (arith, off t m l)) (λ l. omega (arith, on t m l, on s m (omega arith)))

-- whether a tally that begins at the first size with a place up to `most`, and no sooner than a size q, counts at a size
module _ (J : ℕ → ℕ) (n most first q t m : ℕ) (begins : PresentFrom J n most first) (is : t ≡ max first q) (h : m ≤ n) where
  counts : 0 < J m → J m ≤ most → q ≤ m → bit (leb t m) ≡ 1
  counts a b d =
      by_lt m first
      (λ l. absurd (omega (arith, begins.before m h l b)))
      (λ l. on t m (omega arith))

  idles : (0 < J m → J m ≤ most → q ≤ m → ⊥) → bit (leb t m) ≡ 0
  idles bad =
      by_lt m t
      (λ l. off t m l)
      (λ l. let there = begins.after m h (omega arith) in absurd (bad there.0 there.1 (omega arith)))

-- what the four say of an outcome: the block is there, it is no lower than its priority, it is above, and there is room at its priority
record Says (here reached above room o : ℕ) : Type 0 where
  hits : here ≡ same o 0 + same o 1 + same o 2 + same o 3
  stays : reached ≡ same o 1 + same o 2
  sinks : above ≡ same o 2
  fits : room ≡ same o 0 + same o 1 + same o 2 + same o 4
  one : same o 0 + same o 1 + same o 2 + same o 3 + same o 4 + same o 5 ≡ 1

module _ (J : ℕ → ℕ) (n p first reached above t u m : ℕ) (fall : Falling J) (parts : PartsBegin J n p first reached above)
    (is_t : t ≡ max reached p) (is_u : u ≡ max above p) (least : 1 ≤ p) (h : m ≤ n) where
  here : 0 < J m → bit (leb first m) ≡ 1
  here a = counts J n parts.most first 0 first m parts.present (omega arith) h a (omega (arith, fall.fits m, parts.wide)) (omega arith)

  gone : J m ≡ 0 → bit (leb first m) ≡ 0
  gone a = idles J n parts.most first 0 first m parts.present (omega arith) h (λ b d e. omega arith)

  reaching : 0 < J m → J m ≤ p → p ≤ m → bit (leb t m) ≡ 1
  reaching = counts J n p reached p t m parts.reaches is_t h

  not_reaching : (0 < J m → J m ≤ p → p ≤ m → ⊥) → bit (leb t m) ≡ 0
  not_reaching = idles J n p reached p t m parts.reaches is_t h

  rising : 0 < J m → J m ≤ p - 1 → p ≤ m → bit (leb u m) ≡ 1
  rising = counts J n (p - 1) above p u m parts.rises is_u h

  not_rising : (0 < J m → J m ≤ p - 1 → p ≤ m → ⊥) → bit (leb u m) ≡ 0
  not_rising = idles J n (p - 1) above p u m parts.rises is_u h

  says : Says (bit (leb first m)) (bit (leb t m)) (bit (leb u m)) (bit (leb p m)) (outcome m (J m) p)
  says =
      by_outcome (Says (bit (leb first m)) (bit (leb t m)) (bit (leb u m)) (bit (leb p m))) m (J m) p
      (λ a b. omega (arith, here a, not_reaching (λ x y z. omega arith), not_rising (λ x y z. omega arith), on p m (omega (arith, fall.fits m))))
      (λ a b. omega (arith, here a, reaching a (omega arith) (omega (arith, fall.fits m)), not_rising (λ x y z. omega arith), on p m (omega (arith, fall.fits m))))
      (λ a b k. omega (arith, here a, reaching a (omega arith) k, rising a (omega arith) k, on p m k))
      (λ a b k. omega (arith, here a, not_reaching (λ x y z. omega arith), not_rising (λ x y z. omega arith), off p m k))
      (λ a k. omega (arith, gone a, not_reaching (λ x y z. omega arith), not_rising (λ x y z. omega arith), on p m k))
      (λ a k. omega (arith, gone a, not_reaching (λ x y z. omega arith), not_rising (λ x y z. omega arith), off p m k))

  insert_gives : p < first → SumsGive (λ i. gain 4 p i m + gain 0 first i m + gain 1 t i m + gain 2 u i m) 1 (λ o. is_outcome o m (J m) p)
  insert_gives l = omega (arith, says, sooner p first m (omega arith))

  bypass_gives : first ≤ p → SumsGive (λ i. gain 3 first i m + gain 5 p i m + gain 1 t i m + gain 2 u i m) 1 (λ o. is_outcome o m (J m) p)
  bypass_gives l = omega (arith, says, sooner first p m l)

-- ---- the read

-- its steps, as each function ensures them
pub record Steps (c b s d : List ℕ) (n first t u p : ℕ) : Type 0 where
  pub long : counts_length n ≤ length c
  pub some : 1 ≤ first
  pub least : 1 ≤ p
  pub one : p ≤ t
  pub two : p ≤ u
  pub begins : b ≡ begun c n first p
  pub marks : s ≡ bumped b n 1 t
  pub ends : d ≡ bumped s n 2 u

module _ {c b s d : List ℕ} {n first t u p : ℕ} (steps : Steps c b s d n first t u p) where
  four_of : (k x l y : ℕ) → b ≡ bumped (bumped c n k x) n l y → 1 ≤ x → 1 ≤ y → k < columns → l < columns → Four c d n k x l y t u
  four_of k x l y opens some-x some-y k-low l-low =
      let long_x = length_bumped c n k x in
      let long_b : length b ≡ length c = ap length opens ∙ length_bumped (bumped c n k x) n l y ∙ long_x in
      let long_s : length s ≡ length c = ap length steps.marks ∙ length_bumped b n 1 t ∙ long_b in
      record {
        once = bumped c n k x;
        twice = b;
        thrice = s;
        first = record { is = refl; long = steps.long; some = some-x; column = k-low };
        second = record { is = opens; long = omega arith; some = some-y; column = l-low };
        third = record { is = steps.marks; long = omega arith; some = omega arith; column = omega arith };
        fourth = record { is = steps.ends; long = omega arith; some = omega arith; column = omega arith };
      }

  by-opening {ℓ} : {P : Type ℓ} → (p < first → Four c d n 4 p 0 first t u → P) → (first ≤ p → Four c d n 3 first 5 p t u → P) → P
  unfolding begun
  by-opening insert bypass =
      by_lt p first
      (λ h. insert h (four_of 4 p 0 first (steps.begins ∙ simp tests) steps.least steps.some (omega arith) (omega arith)))
      (λ h. bypass h (four_of 3 first 5 p (steps.begins ∙ simp tests) steps.some steps.least (omega arith) (omega arith)))

  pub read_small : GrownBy 1 c d
  read_small =
      by-opening
      (λ l four. all_small four (omega arith) (λ e. omega arith) (λ e. omega arith) (λ e. omega arith))
      (λ l four. all_small four (omega arith) (λ e. omega arith) (λ e. omega arith) (λ e. omega arith))

  -- what the read adds
  pub read_tallied : (J : ℕ → ℕ) (reached above : ℕ) → Falling J → PartsBegin J n p first reached above → t ≡ max reached p → u ≡ max above p → ReadTallied c d J n p
  read_tallied J reached above fall parts is_t is_u reads counted old m some h =
      by-opening
      (λ l four. sums_same (all_gains four m h) (λ o g. refl) (sums_add (old m some h) (insert_gives J n p first reached above t u m fall parts is_t is_u steps.least h l)))
      (λ l four. sums_same (all_gains four m h) (λ o g. refl) (sums_add (old m some h) (bypass_gives J n p first reached above t u m fall parts is_t is_u steps.least h l)))
