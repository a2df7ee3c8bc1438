-- What serves the reader of numbers.
pub mod Laws
