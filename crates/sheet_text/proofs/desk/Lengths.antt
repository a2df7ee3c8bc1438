-- The sheet of an input, by its length.
use mathlib.Core.Path.{◌≡◌}
use mathlib.Core.List.{List}
use Prim.Native.Nat.{ℕ, ◌≤◌, ◌<◌}
use lib.ListN.{length}
use borrow.Author.Tests.{lt-ltb, le-ltb}
use Rattle.terms.specs.declared.Refusal.TheVariants.{Large}
use Rattle.terms.specs.Refusals.{number_of}
use Rattle.sizes.specs.Outcome.{Areas, run_of}
use Rattle.sheet_text.specs.Sheet.{refused_line, sheet_of}
use Rattle.sheet_text.specs.Desk.{largest_input, desk_sheet_of, areas_after}

module _ (bytes : List ℕ) (areas : Areas) where
  pub large_sheet : largest_input < length bytes → desk_sheet_of bytes areas ≡ refused_line (number_of Large) largest_input
  unfolding desk_sheet_of
  large_sheet h = simp (lt-ltb largest_input (length bytes) h)

  pub large_areas : largest_input < length bytes → areas_after bytes areas ≡ areas
  unfolding areas_after
  large_areas h = simp (lt-ltb largest_input (length bytes) h)

  pub small_sheet : length bytes ≤ largest_input → desk_sheet_of bytes areas ≡ sheet_of bytes areas
  unfolding desk_sheet_of
  small_sheet h = simp (le-ltb largest_input (length bytes) h)

  pub small_areas : length bytes ≤ largest_input → areas_after bytes areas ≡ (run_of bytes areas).areas
  unfolding areas_after
  small_areas h = simp (le-ltb largest_input (length bytes) h)
