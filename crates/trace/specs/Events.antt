-- Reading events to the end, whatever an event is, a position and the place of a refusal.
use Rattle.std.specs.Prelude.{ℕ, zero, suc, Bool, cond, List, [], ◌∷◌}
use Rattle.trace.specs.Reading.{Found, Given, and_then}

module _ {P L E : Type 0} (ended : P → Bool) (next : P → Found P L E) where
  -- the events from a position on, in at most so many steps
  abbrev pub events_from : (steps : ℕ) → P → Found P L (List E)
  events_from zero at = Given [] at
  events_from (suc steps) at =
      cond (ended at) (Given [] at) (and_then (next at) (λ e at₁. and_then (events_from steps at₁) (λ es at₂. Given (e ∷ es) at₂)))
