-- What serves the reader of a piece.
pub mod Cases
