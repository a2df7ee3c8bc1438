-- What the largest size leaves room for: the one place where its value counts.
use Prim.Native.Nat.{ℕ, ◌+◌, ◌^◌, ◌≤◌, ◌<◌}
use native.Mathlib.Omega.{arith}
use Rattle.terms.specs.Ranges.{size}
use Rattle.engine.specs.Rows.{row_length}

-- the code's LIST_ROOM
abbrev pub list_room : ℕ
list_room = 130

-- an array of a read holds the longest list and two zeros
pub list_room_lem : (n : ℕ) → n ≤ size.largest → row_length n + 2 ≤ list_room
unfolding size
list_room_lem n h = omega arith

-- a size fits 16 bits
pub size_small : (n : ℕ) → n ≤ size.largest → n < 2 ^ 16
size_small n h = omega (arith, list_room_lem n h)
