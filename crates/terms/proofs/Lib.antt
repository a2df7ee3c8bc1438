pub mod Refusals
pub mod Ranges
pub mod Determined
pub mod Areas
