pub mod Pieces
pub mod Good
pub mod Listing
pub mod Cover
pub mod Answers
pub mod Steps
