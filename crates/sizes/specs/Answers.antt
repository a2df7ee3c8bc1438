-- The three areas as the calls lend them.
use Rattle.std.specs.Prelude.{ℕ, ◌≡◌, List}
use Rattle.sizes.specs.Outcome.{Areas, Outcome, run_of}

-- the three lent areas
abbrev pub areas_of : (blocks stretches counts : List ℕ) → Areas
areas_of blocks stretches counts = record { blocks = blocks; stretches = stretches; counts = counts }

-- the three areas, as they should be left
abbrev pub AreasAre : Areas → (blocks stretches counts : List ℕ) → Type 0
AreasAre areas blocks stretches counts = (blocks ≡ areas.blocks) × (stretches ≡ areas.stretches) × (counts ≡ areas.counts)

-- what a run answers and leaves, with these areas lent
abbrev pub run_in : (bytes blocks stretches counts : List ℕ) → Outcome
run_in bytes blocks stretches counts = run_of bytes (areas_of blocks stretches counts)
