pub mod Outcome
pub mod Frame
pub mod Answers
