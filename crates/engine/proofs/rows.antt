-- Laws of rows: how they lie, what they hold, and how a list goes from one to another.
pub mod RowLayout
pub mod RowLaws
pub mod RowParts
pub mod RowSkips
pub mod RowCounts
pub mod Singles
pub mod Raisings
