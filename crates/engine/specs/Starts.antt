-- What the functions that search a list promise each other.
use Rattle.std.specs.Prelude.{ℕ, ◌≤◌, ◌≡◌}
use Rattle.card.specs.Stretches.{stretches}

-- none of the first i stretches has a place up to `most`
abbrev pub Passed : (ℕ → ℕ) → (n most i : ℕ) → Type 0
Passed J n most i = (m : ℕ) → m ≤ n → stretches J m ≤ i → J m ≤ most → J m ≡ 0
