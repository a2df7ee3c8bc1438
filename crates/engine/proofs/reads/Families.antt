-- The blocks of the largest card after reads, by their places: each one's places over all sizes.
use mathlib.Core.Path.{◌≡◌, refl, sym, ap, ◌∙◌}
use mathlib.Core.Logic.{◌≢◌, ◌⊎◌, inl, inr}
use mathlib.Core.List.{List}
use Prim.Native.Nat.{ℕ, zero, suc, ◌≤◌, ◌<◌}
use native.Mathlib.Omega.{arith}
use native.Mathlib.Numerals.{add-one}
use lib.ListN.{get_or, get_or-eq_default}
use Rattle.terms.specs.Reads.{Read}
use Rattle.card.specs.Run.{card_after}
use Rattle.card.specs.Stretches.{places_of}
use Rattle.card.proofs.Tests.{by_lt, by_eq, tests}
use Rattle.card.proofs.TwoMoves.Moves.{place_get_or, depth, depth_there, get_or_depth}
use Rattle.card.proofs.Inclusion.{card_apart, length_card}
use Rattle.card.proofs.StretchBounds.{places_fall}
use Rattle.card.specs.Falling.{Falling}
use Rattle.engine.specs.Moves.{Family}
use Rattle.engine.specs.Rows.{places_at}

-- the key at an index of the largest card
abbrev pub key_at : List Read → ℕ → ℕ → ℕ
key_at rs n i = get_or (card_after n rs) i 0

-- what stands at place k; nothing at place 0
abbrev pub family : List Read → ℕ → ℕ → ℕ → ℕ
family rs n zero m = 0
family rs n (suc i) m = places_at rs n i m

-- the places L k are those of what stands at place k
abbrev pub FamilyIs : ℕ → List Read → (ℕ → ℕ → ℕ) → Type 0
FamilyIs n rs L = (k : ℕ) → 1 ≤ k → k ≤ n → (m : ℕ) → m ≤ n → L k m ≡ family rs n k m

falling_none : (f : ℕ → ℕ) → ((m : ℕ) → f m ≡ 0) → Falling f
falling_none f h = record { fits = λ m. omega (arith, h m); falls = λ m g. absurd (omega (arith, h m)) }

module _ (rs : List Read) (n : ℕ) where
  pub placed : (i : ℕ) → key_at rs n i ≢ 0 → (m : ℕ) → places_at rs n i m ≡ places_of rs (key_at rs n i) m
  placed i h m = simp tests

  pub unplaced : (i : ℕ) → key_at rs n i ≡ 0 → (m : ℕ) → places_at rs n i m ≡ 0
  unplaced i h m = simp tests

  pub past_key : (i : ℕ) → n ≤ i → key_at rs n i ≡ 0
  past_key i h = get_or-eq_default (card_after n rs) 0 (omega (arith, length_card n rs))

  -- a block of the largest card is at its own place there
  pub key_place : (i : ℕ) → key_at rs n i ≢ 0 → (i < n) × (places_of rs (key_at rs n i) n ≡ suc i)
  key_place i h =
      let in_card : i < n = by_lt i n (λ a. a) (λ a. absurd (h (past_key i a))) in
      (in_card, place_get_or (card_after n rs) i (card_apart n rs) (omega (arith, length_card n rs)) h)

  family_good : (k : ℕ) → Falling (family rs n k)
  family_good zero = falling_none (family rs n zero) (λ m. refl)
  family_good (suc i) =
      by_eq (key_at rs n i) 0
      (λ e. falling_none (places_at rs n i) (unplaced i e))
      (λ e. let f = places_fall rs (key_at rs n i) (omega arith) in record {
        fits = λ m. rw (placed i e m) (f.fits m);
        falls = λ m g. rw (placed i e m, placed i e (suc m)) (f.falls m (rw (placed i e m) at g));
      })

  family_last : (k : ℕ) → (family rs n k n ≡ k) ⊎ ((m : ℕ) → family rs n k m ≡ 0)
  family_last zero = inr (λ m. refl)
  family_last (suc i) =
      by_eq (key_at rs n i) 0
      (λ e. inr (unplaced i e))
      (λ e. inl (placed i e n ∙ (key_place i e).1))

  pub family_is : Family (family rs n) n
  family_is = record {
    good = family_good;
    none = λ m. refl;
    past = λ m. ap (λ (k : ℕ). family rs n k m) (add-one n) ∙ unplaced n (past_key n (omega arith)) m;
    last = family_last;
  }

-- ---- the family at the place of a block

-- a block stands in the largest card where its place says
pub key_here : (rs : List Read) (n x i : ℕ) → places_of rs x n ≡ suc i → key_at rs n i ≡ x
key_here rs n x i e =
    let (a, b) = depth_there (card_after n rs) x (omega arith) in
    let d : depth (card_after n rs) x ≡ i = omega arith in
    ap (λ (q : ℕ). key_at rs n q) (sym d) ∙ get_or_depth (card_after n rs) x a

-- the family at the place of a block
pub family_at : (rs : List Read) (n y : ℕ) → y ≢ 0 → 1 ≤ places_of rs y n → (m : ℕ) → family rs n (places_of rs y n) m ≡ places_of rs y m
family_at rs n y z present m = go (places_of rs y n) refl
  where
    go : (l : ℕ) → places_of rs y n ≡ l → family rs n l m ≡ places_of rs y m
    go zero e = absurd (omega arith)
    go (suc i) e =
        let here = key_here rs n y i e in
        placed rs n i (λ q. z (sym here ∙ q)) m ∙ ap (λ (w : ℕ). places_of rs w m) here
