pub mod Refusals
pub mod Ranges
pub mod Reads
pub mod Areas
