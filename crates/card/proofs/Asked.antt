-- What a read asks for, and why a law on two sizes may take both steps at what is asked at the larger one.
use mathlib.Core.Path.{◌≡◌, refl, sym, ap, ◌∙◌}
use mathlib.Core.List.{List}
use Prim.Native.Nat.{ℕ, ◌+◌, ◌≤◌, ◌<◌, min, max}
use native.Mathlib.Omega.{arith}
use lib.ListN.{length}
use Rattle.terms.specs.Reads.{Read}
use Rattle.card.specs.Rule.{outcome, after_read}
use Rattle.card.specs.Run.{block_read, asked, next}
use Rattle.card.proofs.Tests.{by_lt}
use Rattle.card.proofs.AfterRead.{length_after}
use Rattle.card.proofs.Discards.{outcome_past, discard_read}

-- a read asks for its priority, and without a hint for the top
pub asked_read : (m : ℕ) (r : Read) → asked m r ≡ max 1 r.priority
unfolding asked
asked_read m r = refl

-- no read asks for place 0
pub asked_some : (m : ℕ) (r : Read) → 1 ≤ asked m r
unfolding asked
asked_some m r = omega arith

-- what is asked at a larger size is the same place of a card, or past its last one as well
pub asked_sizes : (m n : ℕ) → m ≤ n → (r : Read) → min (asked m r) (m + 1) ≡ min (asked n r) (m + 1)
unfolding asked
asked_sizes m n h r = refl

-- a card keeps its size
pub length_next : (c : List ℕ) (r : Read) → length (next c r) ≡ length c
length_next c r = length_after c (block_read r) (asked (length c) r) (asked_some (length c) r)

-- two places that a card of size m does not tell apart: they are one, or both are past its last one
by_upto : {P : Type 0} (m p q : ℕ) → min p (m + 1) ≡ min q (m + 1) → (p ≡ q → P) → (m < p → m < q → P) → P
by_upto m p q e one past = by_lt m p (λ h. past h (omega arith)) (λ h. one (omega arith))

-- a read leaves the same card at what it asks for on a larger one
pub read_upto : (c : List ℕ) (x n : ℕ) → length c ≤ n → (r : Read) → after_read c x (asked (length c) r) ≡ after_read c x (asked n r)
read_upto c x n h r =
    by_upto (length c) (asked (length c) r) (asked n r) (asked_sizes (length c) n h r)
    (λ e. ap (after_read c x) e)
    (λ a b. discard_read c x (asked (length c) r) a ∙ sym (discard_read c x (asked n r) b))

-- and has the same outcome
pub outcome_upto : (m n j : ℕ) → m ≤ n → j ≤ m → (r : Read) → outcome m j (asked m r) ≡ outcome m j (asked n r)
outcome_upto m n j h l r =
    by_upto m (asked m r) (asked n r) (asked_sizes m n h r)
    (λ e. ap (outcome m j) e)
    (λ a b. outcome_past m j (asked m r) l a ∙ sym (outcome_past m j (asked n r) l b))
