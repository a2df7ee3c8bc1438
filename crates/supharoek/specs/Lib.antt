pub mod Ratios
pub mod Told
