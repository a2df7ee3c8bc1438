-- What serves the writer of numbers.
pub mod Laws
