pub mod Outcome
pub mod Totals
pub mod Passing
pub mod Answers
pub mod Hints
