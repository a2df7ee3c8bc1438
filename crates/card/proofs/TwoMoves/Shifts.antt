-- How places shift where one is taken out and one is put in; here places count from 0.
use mathlib.Core.Path.{◌≡◌}
use mathlib.Core.Logic.{◌≢◌}
use Prim.Native.Nat.{ℕ, suc, ◌+◌, ◌-◌, ◌≤◌, ◌<◌}
use native.Mathlib.Omega.{arith}
use lib.Dec.{ltb, leb}
use Rattle.card.proofs.Tests.{bit, bit_le, by_lt, tests}

-- take out what stands at j: what is below comes one higher
abbrev pub out : ℕ → ℕ → ℕ
out j l = l - bit (ltb j l)

-- put in at q: what is there and below goes one lower
abbrev pub put : ℕ → ℕ → ℕ
put q l = l + bit (leb q l)

-- a take-out and a put-in keep the order of one block's places in two cards
pub out_mono : (j j' l l' : ℕ) → l ≢ j → l' ≢ j' → l' ≤ l → j' ≤ j → out j' l' ≤ out j l
out_mono j j' l l' n n' h k = by_lt j l (λ a. simp (tests, bit_le) (omega arith)) (λ a. simp (tests, bit_le) (omega arith))

pub put_mono : (q l l' : ℕ) → l' ≤ l → put q l' ≤ put q l
put_mono q l l' h = simp bit_le (omega arith)

pub out_lo : (j l : ℕ) → l ≤ j → out j l ≡ l
out_lo j l h = simp tests (omega arith)

pub out_hi : (j l : ℕ) → j < l → out j l ≡ l - 1
out_hi j l h = simp tests

pub put_lo : (q l : ℕ) → l < q → put q l ≡ l
put_lo q l h = simp tests (omega arith)

pub put_hi : (q l : ℕ) → q ≤ l → put q l ≡ l + 1
put_hi q l h = simp tests

pub out_strict : (j l m : ℕ) → l ≢ j → l < m → out j l < out j m
out_strict j l m n h = by_lt j l (λ a. simp (tests, bit_le) (omega arith)) (λ a. simp (tests, bit_le) (omega arith))

pub out_le : (j l : ℕ) → out j l ≤ l
out_le j l = simp bit_le (omega arith)

pub out_suc : (j l : ℕ) → l ≤ suc (out j l)
out_suc j l = simp bit_le (omega arith)
