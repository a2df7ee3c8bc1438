pub mod Columns
pub mod Tallies
pub mod TallySteps
