-- What zeros hold.
use mathlib.Core.Path.{◌≡◌, refl}
use mathlib.Core.List.{List}
use Prim.Native.Nat.{ℕ, zero, suc}
use lib.ListN.{length, get_or, length-replicate}
use Rattle.terms.specs.Areas.{zeros}

pub zeros_at : (n x : ℕ) → get_or (zeros n) x 0 ≡ 0
zeros_at zero x = refl
zeros_at (suc n) zero = refl
zeros_at (suc n) (suc x) = zeros_at n x

pub zeros_length : (s : List ℕ) (n : ℕ) → s ≡ zeros n → length s ≡ n
zeros_length s n e = rw e (length-replicate {A = ℕ} n 0)
