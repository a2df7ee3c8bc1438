-- cases
pub mod Tests
pub mod OutcomeCases
pub mod OutcomeNumbers
-- one read on a card
pub mod TwoMoves
pub mod AfterRead
pub mod Discards
pub mod Asked
pub mod Keys
-- how sizes nest
pub mod Inclusion
pub mod ReadKeys
pub mod Outcomes
pub mod NextPlaces
-- stretches
pub mod Blocks
pub mod StretchBounds
pub mod Totals
pub mod Hints
-- the step, and the contracts
pub mod ValidStates
pub mod StepCounts
pub mod Determined
-- for what is to come
pub mod Full
pub mod Lru
pub mod Stirred
