-- How the rows lie in the stretch area: no other file knows it.
use mathlib.Core.Path.{◌≡◌, ap, ◌∙◌}
use mathlib.Core.Logic.{◌⊎◌}
use Prim.Native.Nat.{ℕ, ◌+◌, ◌-◌, ◌*◌, ◌^◌, ◌≤◌, ◌<◌}
use native.Mathlib.Omega.{arith}
use native.Mathlib.Nat.{suc-mul, mul-le-mul, mul-le-mul_right}
use native.Mathlib.Numerals.{add-one}
use lib.ListN.{length}
use Rattle.terms.specs.Ranges.{size}
use Rattle.card.specs.Falling.{Falling}
use Rattle.card.specs.Stretches.{half}
use Rattle.engine.specs.Rows.{pairs, row_length, row_start, row_room, stretches_length, span, row_of}
use Rattle.engine.proofs.Widths.{size_small}
use Rattle.engine.proofs.lists.PairFacts.{pairs_fit}

-- rows of one length, one after the other
base_le : (k y w : ℕ) → k < y → k * w + w ≤ y * w
base_le k y w h =
    let next : (k + 1) * w ≡ k * w + w = ap (λ (z : ℕ). z * w) (add-one k) ∙ suc-mul k w in
    let le : k + 1 ≤ y = omega arith in
    omega (arith, next, mul-le-mul_right w le)

-- the row of a place, worked out
pub row_is : (n k longest : ℕ) → longest ≡ row_length n → span ((k - 1) * longest) longest ≡ row_of n k
unfolding row_start row_room
row_is n k longest e = ap (λ (w : ℕ). span ((k - 1) * w) w) e

module _ (n : ℕ) where
  -- a row ends no later than a later one starts
  pub rows_follow : (j k : ℕ) → 0 < j → j < k → row_start n j + row_room n j ≤ row_start n k
  unfolding row_start row_room
  rows_follow j k some lt = base_le (j - 1) (k - 1) (row_length n) (omega arith)

  -- each lies in the area
  pub row_inside : (k : ℕ) → 0 < k → k ≤ n → row_start n k + row_room n k ≤ stretches_length n
  unfolding row_start row_room stretches_length
  row_inside k some le = omega (arith, base_le (k - 1) n (row_length n) (omega arith))

  -- and has room for a stretch
  pub room_some : (k : ℕ) → 0 < k → k ≤ n → 2 ≤ row_room n k
  unfolding row_room
  room_some k some le = omega arith

  -- none is longer than the longest, or than one before it
  pub room_most : (k : ℕ) → row_room n k ≤ row_length n
  unfolding row_room
  room_most k = omega arith

  pub rooms_fall : (j k : ℕ) → j ≤ k → row_room n k ≤ row_room n j
  unfolding row_room
  rooms_fall j k le = omega arith

  -- the list of a block fits the row of its place in the largest card
  pub row_fits : (R : ℕ → ℕ) (k : ℕ) → Falling R → (R n ≡ k) ⊎ ((m : ℕ) → R m ≡ 0) → length (pairs R n) ≤ row_room n k
  unfolding row_room
  row_fits R k fall there = pairs_fit R n fall

-- ---- all rows together

pub stretches_small : (n : ℕ) → n ≤ size.largest → stretches_length n < 2 ^ 40
unfolding stretches_length
stretches_small n h =
    let low = size_small n h in
    let b : 2 * n * half n ≤ 2 ^ 17 * 2 ^ 16 = mul-le-mul {n₂ = 2 ^ 17} {m₂ = 2 ^ 16} (omega arith) (omega arith) in
    omega arith

-- a smaller card has no more
pub stretches_less : (n N : ℕ) → n ≤ N → stretches_length n ≤ stretches_length N
unfolding stretches_length
stretches_less n N h = mul-le-mul {n₂ = 2 * N} {m₂ = half N} (omega arith) (omega arith)
