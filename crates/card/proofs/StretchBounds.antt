-- The stretches of one block over sizes 1 to N, and how many blocks there are.
use mathlib.Core.Path.{◌≡◌, refl}
use mathlib.Core.Bool.{true}
use mathlib.Core.List.{List}
use Prim.Native.Nat.{ℕ, zero, suc, ◌+◌, ◌*◌, ◌≤◌, ◌<◌}
use native.Mathlib.Omega.{arith}
use lib.ListN.{length}
use Rattle.terms.specs.Reads.{Read}
use Rattle.card.specs.Rule.{place}
use Rattle.card.specs.Run.{card_after}
use Rattle.card.specs.Stretches.{places_of, starts, stretches, half}
use Rattle.card.specs.Falling.{Falling}
use Rattle.card.specs.State.{apart}
use Rattle.card.proofs.Tests.{by_eq, tests, here, here_one, some_here}
use Rattle.card.proofs.OutcomeCases.{place_in}
use Rattle.card.proofs.AfterRead.{apart_holds}
use Rattle.card.proofs.Inclusion.{inclusion, length_card}
use Rattle.card.proofs.Blocks.{sum_among, sum_ones, ones_sum}

pub starts_here : (a b : ℕ) → starts a b ≤ here b
starts_here a b =
    by_eq b 0 (λ e. simp tests (omega arith)) (λ e. by_eq b a (λ f. simp tests (omega arith)) (λ f. simp tests (omega arith)))

module _ (f : ℕ → ℕ) (fall : Falling f) where
  -- absent: no stretch so far. present: twice the stretches, and the places that are left above it
  record Reached (n : ℕ) : Type 0 where
    none : f n ≡ 0 → stretches f n ≡ 0
    some : 0 < f n → 2 * stretches f n + f n ≤ n + 2

  reached : (n : ℕ) → Reached n
  reached zero = record { none = λ a. refl; some = λ a. absurd (omega (arith, fall.fits 0)) }
  reached (suc n) =
      let ih = reached n in
      by_eq (f (suc n)) 0
      (λ a. record { none = λ c. simp tests (omega (arith, ih.none (by_eq (f n) 0 (λ b. b) (λ b. absurd (omega (arith, fall.falls n (omega arith))))))); some = λ c. absurd (omega arith) })
      (λ a. by_eq (f n) 0
      (λ b. record { none = λ c. absurd (omega arith); some = λ c. omega (arith, ih.none b, fall.fits (suc n), starts_here (f n) (f (suc n)), here_one (f (suc n))) })
      (λ b. by_eq (f (suc n)) (f n)
      (λ e. record { none = λ c. absurd (omega arith); some = λ c. simp tests (omega (arith, ih.some (omega arith))) })
      (λ e. record { none = λ c. absurd (omega arith); some = λ c. simp tests (omega (arith, ih.some (omega arith), fall.falls n (omega arith))) })))

  pub stretches_none : (N : ℕ) → f N ≡ 0 → stretches f N ≡ 0
  stretches_none N h = (reached N).none h

  -- the fewer stretches, the lower the block is in the largest card
  pub falling_room : (N : ℕ) → 0 < f N → 2 * stretches f N + f N ≤ N + 2
  falling_room N h = (reached N).some h

  pub falling_half : (N : ℕ) → stretches f N ≤ half N
  falling_half N = by_eq (f N) 0 (λ a. omega (arith, (reached N).none a)) (λ a. omega (arith, (reached N).some (omega arith)))

pub places_fall : (rs : List Read) (x : ℕ) → 0 < x → Falling (places_of rs x)
places_fall rs x z = record {
  fits = λ n. omega (arith, place_in (card_after n rs) x, length_card n rs);
  falls = λ n h. inclusion n (suc n) (omega arith) rs x z h;
}

-- no block has more than half of N stretches, rounded up
pub stretches_half : (rs : List Read) (x N : ℕ) → 0 < x → stretches (places_of rs x) N ≤ half N
stretches_half rs x N z = falling_half (places_of rs x) (places_fall rs x z) N

-- and the fewer, the lower it is in the largest card
pub stretches_room : (rs : List Read) (x N : ℕ) → 0 < x → 0 < places_of rs x N → 2 * stretches (places_of rs x) N + places_of rs x N ≤ N + 2
stretches_room rs x N z h = falling_room (places_of rs x) (places_fall rs x z) N h

-- blocks that are each present at some size up to N are at most N
pub blocks_fit : (N : ℕ) (rs : List Read) (xs : List ℕ) → apart xs ≡ true
    → ((x : ℕ) → 0 < place xs x → (0 < x) × ((s : ℕ) × ((s ≤ N) × (0 < places_of rs x s)))) → length xs ≤ N
blocks_fit N rs xs a h =
    omega (
      arith,
      length_card N rs,
      ones_sum here xs (λ x i. let (z, _) = h x i in omega (arith, some_here x z)),
      sum_among here refl xs (card_after N rs) (apart_holds xs a) (λ x w i. let (z, (s, (l, p))) = h x i in (inclusion s N l rs x z p).0),
      sum_ones here here_one (card_after N rs),
    )
