-- A block is its volume and its number together: no two blocks share a key.
use mathlib.Core.Path.{◌≡◌, ap}
use Prim.Native.Nat.{ℕ, suc, ◌*◌, ◌≤◌, ◌<◌}
use native.Mathlib.Omega.{arith}
use native.Mathlib.Nat.{suc-mul, mul-le-mul_right}
use Rattle.terms.specs.Ranges.{block}
use Rattle.card.specs.Rule.{key_of}
use Rattle.card.proofs.Tests.{by_lt}

-- all keys of a volume come before those of the next
key_before : (v b v' b' : ℕ) → v < v' → b ≤ block.largest → key_of v b < key_of v' b'
unfolding key_of
key_before v b v' b' h low =
    let next : suc v ≤ v' = omega arith in
    omega (arith, suc-mul v (suc block.largest), mul-le-mul_right (suc block.largest) next)

-- on one volume, keys differ as the numbers do
one_number : (v b v' b' : ℕ) → v ≡ v' → key_of v b ≡ key_of v' b' → b ≡ b'
unfolding key_of
one_number v b v' b' same e = omega (arith, e, ap (λ (z : ℕ). z * suc block.largest) same)

-- equal numbers on two volumes are two blocks
pub one_key : (v b v' b' : ℕ) → b ≤ block.largest → b' ≤ block.largest → key_of v b ≡ key_of v' b' → (v ≡ v') × (b ≡ b')
one_key v b v' b' low low' e =
    by_lt v v' (λ h. absurd (omega (arith, e, key_before v b v' b' h low)))
    (λ h. by_lt v' v (λ g. absurd (omega (arith, e, key_before v' b' v b g low')))
    (λ g. let same : v ≡ v' = omega arith in (same, one_number v b v' b' same e)))
