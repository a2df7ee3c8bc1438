pub mod Sums
pub mod Bumps
pub mod OneRead
pub mod Turns
