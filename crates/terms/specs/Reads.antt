-- A read, as a trace has it and a card takes it.
use Rattle.std.specs.Prelude.{ℕ, ◌≡◌, true, List, [], ◌∷◌}
use Rattle.terms.specs.Ranges.{in_range, volume, block, priority}

-- a block, which is its volume and its number together, and a priority
pub record Read : Type 0 where
  pub volume : ℕ
  pub block : ℕ
  pub priority : ℕ

-- the read of a volume, a block and a priority
abbrev pub read_of : ℕ → ℕ → ℕ → Read
read_of v b p = record { volume = v; block = b; priority = p }

-- a read whose numbers are in range
abbrev pub ReadOk : Read → Type 0
ReadOk r = (in_range volume r.volume ≡ true) × (in_range block r.block ≡ true) × (in_range priority r.priority ≡ true)

-- all of them are
abbrev pub ReadsOk : List Read → Type 0
ReadsOk [] = Unit
ReadsOk (r ∷ rs) = ReadOk r × ReadsOk rs
