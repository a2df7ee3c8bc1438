-- A list of stretches, stretch by stretch: which has begun at a size, and which place it gives.
use mathlib.Core.Path.{◌≡◌, refl, sym, ap, ◌∙◌}
use mathlib.Core.List.{[], ◌∷◌, ◌++◌, append-nil}
use Prim.Native.Nat.{ℕ, zero, suc, ◌+◌, ◌*◌, ◌≤◌, ◌<◌}
use native.Mathlib.Omega.{arith}
use lib.ListN.{length, get_or, length-append, get_or-eq_default}
use lib.Seq.{get_or-append-add}
use Rattle.card.specs.Stretches.{stretches}
use Rattle.card.proofs.Tests.{by_lt, by_eq, tests}
use Rattle.engine.specs.Rows.{pairs}
use Rattle.card.specs.Falling.{Falling}
use Rattle.engine.proofs.lists.PairLaws.{len_le, prefix}

module _ (J : ℕ → ℕ) where
  -- a size at which no stretch starts, and one at which one does
  record Same (n : ℕ) : Type 0 where
    list : pairs J (suc n) ≡ pairs J n
    number : stretches J (suc n) ≡ stretches J n
    goes : 0 < J (suc n) → J (suc n) ≡ J n

  record New (n : ℕ) : Type 0 where
    list : pairs J (suc n) ≡ pairs J n ++ (suc n ∷ J (suc n) ∷ [])
    number : stretches J (suc n) ≡ suc (stretches J n)
    some : 0 < J (suc n)

  by-start {ℓ} : {P : Type ℓ} (n : ℕ) → (Same n → P) → (New n → P) → P
  unfolding pairs
  by-start n same new =
      by_eq (J (suc n)) 0
      (λ e. same record { list = simp tests (append-nil (pairs J n)); number = simp tests (omega arith); goes = λ h. absurd (omega arith) })
      (λ d. by_eq (J (suc n)) (J n)
      (λ e. same record { list = simp tests (append-nil (pairs J n)); number = simp tests (omega arith); goes = λ h. e })
      (λ e. new record { list = simp tests; number = simp tests (omega arith); some = omega arith }))

  -- two entries for each stretch
  pub length_pairs : (n : ℕ) → length (pairs J n) ≡ 2 * stretches J n
  unfolding pairs
  length_pairs zero = refl
  length_pairs (suc n) =
      by-start n
      (λ s. ap length s.list ∙ length_pairs n ∙ ap (λ (k : ℕ). 2 * k) (sym s.number))
      (λ s. ap length s.list ∙ length-append (pairs J n) (suc n ∷ J (suc n) ∷ []) ∙ omega (arith, length_pairs n, s.number))

  pub stretches_rise : (m n : ℕ) → m ≤ n → stretches J m ≤ stretches J n
  stretches_rise m n h = omega (arith, len_le J m n h, length_pairs m, length_pairs n)

  -- past the last stretch are zeros
  pub pairs_end : (n q : ℕ) → 2 * stretches J n ≤ q → get_or (pairs J n) q 0 ≡ 0
  pairs_end n q h = get_or-eq_default (pairs J n) 0 {n = q} (omega (arith, length_pairs n))

  -- one size more leaves what there is
  pairs_more : (n q : ℕ) → q < 2 * stretches J n → get_or (pairs J (suc n)) q 0 ≡ get_or (pairs J n) q 0
  pairs_more n q h = prefix J n (suc n) q (omega arith) (omega (arith, length_pairs n))

  pairs_new : (n q : ℕ) → New n → get_or (pairs J (suc n)) (2 * stretches J n + q) 0 ≡ get_or (suc n ∷ J (suc n) ∷ []) q 0
  pairs_new n q s =
      rw (s.list, ← length_pairs n) (get_or-append-add (pairs J n) (suc n ∷ J (suc n) ∷ []) q 0)

  new_place : (n i : ℕ) → New n → i ≡ stretches J n → get_or (pairs J (suc n)) (2 * i + 1) 0 ≡ J (suc n)
  new_place n i s e = ap (λ (k : ℕ). get_or (pairs J (suc n)) (2 * k + 1) 0) e ∙ pairs_new n 1 s

  -- a stretch has begun at the sizes from its first on
  pub record First (n m i : ℕ) : Type 0 where
    pub has : get_or (pairs J n) (2 * i) 0 ≤ m → i < stretches J m
    pub lacks : m < get_or (pairs J n) (2 * i) 0 → stretches J m ≤ i

  pub firsts : (n m i : ℕ) → m ≤ n → i < stretches J n → First n m i
  firsts zero m i h l = absurd (omega arith)
  firsts (suc n) m i h l =
      by_lt i (stretches J n)
      (λ k. let old = pairs_more n (2 * i) (omega arith) in
      by_eq m (suc n)
      (λ e. rw e record { has = λ g. l; lacks = λ g. absurd (omega (arith, (firsts n n i (omega arith) k).lacks (omega arith))) })
      (λ d. let sofar = firsts n m i (omega arith) k in record { has = λ g. sofar.has (omega arith); lacks = λ g. sofar.lacks (omega arith) }))
      (λ k. by-start n
      (λ s. absurd (omega (arith, s.number)))
      (λ s. let here : i ≡ stretches J n = omega (arith, s.number) in
      let new : get_or (pairs J (suc n)) (2 * i) 0 ≡ suc n = ap (λ (q : ℕ). get_or (pairs J (suc n)) q 0) (omega arith) ∙ pairs_new n 0 s in
      by_eq m (suc n)
      (λ e. rw e record { has = λ g. l; lacks = λ g. absurd (omega arith) })
      (λ d. record { has = λ g. absurd (omega arith); lacks = λ g. omega (arith, stretches_rise m n (omega arith)) })))

  module _ (fall : Falling J) where
    -- no stretch, no place
    pub none : (m : ℕ) → stretches J m ≡ 0 → J m ≡ 0
    none zero h = omega (arith, fall.fits 0)
    none (suc m) h =
        by-start m
        (λ s. by_eq (J (suc m)) 0 (λ e. e) (λ d. s.goes (omega arith) ∙ none m (omega (arith, s.number))))
        (λ s. absurd (omega (arith, s.number)))

    -- at a size where a stretch has begun the block is present, no lower than that stretch
    pub places : (n m i : ℕ) → m ≤ n → i < stretches J m → (0 < J m) × (J m ≤ get_or (pairs J n) (2 * i + 1) 0)
    places zero m i h l = let z : m ≡ 0 = omega arith in absurd (omega (arith, ap (stretches J) z))
    places (suc n) m i h l =
        by_eq m (suc n)
        (λ z. let number = ap (stretches J) z in
        rw z (by_lt i (stretches J n)
        (λ k. let old = places n n i (omega arith) k in
        let next = fall.falls n old.0 in
        (next.0, omega (arith, pairs_more n (2 * i + 1) (omega arith))))
        (λ k. by-start n
        (λ s. absurd (omega (arith, s.number)))
        (λ s. (s.some, omega (arith, new_place n i s (omega (arith, s.number))))))))
        (λ d. let old = places n m i (omega arith) l in
        (old.0, omega (arith, pairs_more n (2 * i + 1) (omega (arith, stretches_rise m n (omega arith))))))

    -- the place at a size is that of the last stretch that has begun there
    pub lasts : (n m i : ℕ) → m ≤ n → stretches J m ≡ suc i → get_or (pairs J n) (2 * i + 1) 0 ≡ J m
    lasts zero m i h e = let z : m ≡ 0 = omega arith in absurd (omega (arith, ap (stretches J) z))
    lasts (suc n) m i h e =
        by_eq m (suc n)
        (λ z. let number = ap (stretches J) z in
        rw z (by-start n
        (λ s. rw s.list (lasts n n i (omega arith) (omega (arith, s.number)) ∙ sym (s.goes (places (suc n) (suc n) i (omega arith) (omega arith)).0)))
        (λ s. new_place n i s (omega (arith, s.number)))))
        (λ d. pairs_more n (2 * i + 1) (omega (arith, stretches_rise m n (omega arith))) ∙ lasts n m i (omega arith) e)
