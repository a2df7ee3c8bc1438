-- How a block's places go over the sizes: what the layers above use of the nesting of sizes.
use Rattle.std.specs.Prelude.{ℕ, suc, ◌≤◌, ◌<◌}

-- places within the sizes, 0 where absent; a block that is present stays present in the next size, at the same place or nearer the top
pub record Falling (places : ℕ → ℕ) : Type 0 where
  pub fits : (m : ℕ) → places m ≤ m
  pub falls : (m : ℕ) → 0 < places m → (0 < places (suc m)) × (places (suc m) ≤ places m)
