-- Laws of one row after a read.
pub mod Sources
pub mod Ways
pub mod RowSteps
