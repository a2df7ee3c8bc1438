-- What a lent area holds.
use Rattle.std.specs.Prelude.{ℕ, List, ◌++◌, length, drop, replicate}

-- so many zeros
abbrev pub zeros : ℕ → List ℕ
zeros n = replicate n 0

module _ {A : Type 0} where
  -- a part at the front of an area in the place of what was there
  abbrev pub fronted : List A → List A → List A
  fronted front area = front ++ drop (length front) area
