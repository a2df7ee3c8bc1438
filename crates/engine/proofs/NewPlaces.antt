-- What stands at each place of the largest card after one read more, and its places at every size.
use mathlib.Core.Path.{◌≡◌, refl, sym, ap, ◌∙◌}
use mathlib.Core.Logic.{◌≢◌}
use mathlib.Core.List.{List, [], ◌∷◌, ◌++◌}
use Prim.Native.Nat.{ℕ, zero, suc, ◌-◌, ◌≤◌, ◌<◌}
use native.Mathlib.Omega.{arith}
use Rattle.terms.specs.Reads.{Read}
use Rattle.card.specs.Run.{block_read, asked}
use Rattle.card.specs.Stretches.{places_of}
use Rattle.card.proofs.Tests.{by_lt, by_eq, tests}
use borrow.Author.Tests.{eq-eqb, ne_eqb}
use Rattle.card.proofs.Asked.{asked_some}
use Rattle.card.proofs.Inclusion.{key_some}
use Rattle.card.proofs.NextPlaces.{places_read, places_other}
use Rattle.card.specs.Moves.{taken_out, put_in}
use Rattle.engine.specs.Moves.{other_after, own, source_of, new_of}
use Rattle.engine.specs.Rows.{places_at}
use Rattle.engine.proofs.lists.PairLaws.{after_absent}
use Rattle.card.proofs.StretchBounds.{places_fall}
use Rattle.engine.proofs.reads.Families.{key_at, family, placed, unplaced, key_place}
use Rattle.engine.proofs.renewals.Sources.{source_to, source_from}
use Rattle.engine.proofs.reads.Families.{key_here, family_at}

module _ (rs : List Read) (r : Read) (n : ℕ) where
  abbrev more : List Read
  more = rs ++ (r ∷ [])

  abbrev read_places : ℕ → ℕ
  read_places = places_of rs (block_read r)

  -- the block that was read
  own_places : (i : ℕ) → i < n → suc i ≡ asked n r → (m : ℕ) → m ≤ n → own (asked n r) m ≡ places_at more n i m
  unfolding own
  own_places i h e m u =
      let fits : asked n r ≤ n = omega arith in
      let at_n : places_of more (block_read r) n ≡ suc i = places_read rs r n n (omega arith) ∙ simp tests (sym e) in
      let here = key_here more n (block_read r) i at_n in
      let some : key_at more n i ≢ 0 = λ z. omega (arith, key_some r, here) in
      sym (placed more n i some m ∙ ap (λ (y : ℕ). places_of more y m) here ∙ places_read rs r n m u)

  module _ (i : ℕ) (h : i < n) (other : suc i ≢ asked n r) where
    -- the block that was read is not there
    not_read : places_of more (block_read r) n ≡ suc i → ⊥
    not_read q =
        by_lt n (asked n r)
        (λ a. let b = simp tests at (sym (places_read rs r n n (omega arith)) ∙ q) in omega arith)
        (λ a. let b = simp tests at (sym (places_read rs r n n (omega arith)) ∙ q) in other (sym b))

    -- another block comes there
    comes : (y : ℕ) → key_at more n i ≡ y → y ≢ 0 → (m : ℕ) → m ≤ n → other_after read_places (asked n r) (family rs n (source_of (asked n r) (read_places n) (suc i))) m ≡ places_at more n i m
    unfolding other_after
    comes y e z m u =
        let at_n : places_of more y n ≡ suc i = ap (λ (w : ℕ). places_of more w n) (sym e) ∙ (key_place more n i (λ q. z (sym e ∙ q))).1 in
        let diff : y ≢ block_read r = λ q. not_read (ap (λ (w : ℕ). places_of more w n) (sym q) ∙ at_n) in
        let there : put_in (asked n r) n (taken_out (read_places n) (places_of rs y n)) ≡ suc i = sym (places_other rs r n n (omega arith) y (omega arith) diff) ∙ at_n in
        let present : 1 ≤ places_of rs y n = by_eq (places_of rs y n) 0 (λ q. absurd (omega (arith, sym there ∙ after_absent read_places (asked n r) (places_of rs y) n (asked_some n r) q))) (λ q. omega arith) in
        let apart : places_of rs y n ≢ read_places n = λ q. diff (sym (key_here rs n y (places_of rs y n - 1) (omega arith)) ∙ key_here rs n (block_read r) (places_of rs y n - 1) (omega arith)) in
        let source = (source_to (asked n r) (read_places n) n (asked_some n r) ((places_fall rs (block_read r) (key_some r)).fits n) (places_of rs y n) (suc i) present ((places_fall rs y (omega arith)).fits n) apart (omega arith) there).1 in
        let fam : family rs n (source_of (asked n r) (read_places n) (suc i)) m ≡ places_of rs y m = ap (λ (q : ℕ). family rs n q m) (sym source) ∙ family_at rs n y (z) present m in
        rw fam (sym (places_other rs r n m u y (omega arith) diff) ∙ ap (λ (w : ℕ). places_of more w m) (sym e) ∙ sym (placed more n i (λ q. z (sym e ∙ q)) m))

    -- none does
    empties : key_at more n i ≡ 0 → (m : ℕ) → other_after read_places (asked n r) (family rs n (source_of (asked n r) (read_places n) (suc i))) m ≡ 0
    empties e m =
        after_absent read_places (asked n r) (family rs n (source_of (asked n r) (read_places n) (suc i))) m (asked_some n r)
        (nothing (source_of (asked n r) (read_places n) (suc i)) refl)
      where
        nothing : (s : ℕ) → s ≡ source_of (asked n r) (read_places n) (suc i) → family rs n s m ≡ 0
        nothing zero q = refl
        nothing (suc l) q =
            by_eq (key_at rs n l) 0
            (λ d. unplaced rs n l d m)
            (λ d. let (b, f) = key_place rs n l d in
            let moved = source_from (asked n r) (read_places n) n (asked_some n r) ((places_fall rs (block_read r) (key_some r)).fits n) (suc l) (suc i) q (omega arith) (omega arith) other (omega arith) (omega arith) in
            let diff : key_at rs n l ≢ block_read r = λ w. moved.0 (sym f ∙ ap (λ (v : ℕ). places_of rs v n) w) in
            let here : places_of more (key_at rs n l) n ≡ suc i = places_other rs r n n (omega arith) (key_at rs n l) (omega arith) diff ∙ ap (λ (v : ℕ). put_in (asked n r) n (taken_out (read_places n) v)) f ∙ moved.1 in
            absurd (d (sym (key_here more n (key_at rs n l) i here) ∙ e)))

  -- the places of what stands at each place of the largest card
  pub new_places : (i : ℕ) → i < n → (m : ℕ) → m ≤ n → new_of read_places (asked n r) (read_places n) (family rs n) (suc i) m ≡ places_at more n i m
  unfolding new_of
  new_places i h m u =
      by_eq (suc i) (asked n r)
      (λ e. rw (eq-eqb (suc i) (asked n r) e) (own_places i h e m u))
      (λ e. rw (ne_eqb (suc i) (asked n r) e) (by_eq (key_at more n i) 0
      (λ z. empties i h e z m ∙ sym (unplaced more n i z m))
      (λ z. comes i h e (key_at more n i) refl z m u)))
