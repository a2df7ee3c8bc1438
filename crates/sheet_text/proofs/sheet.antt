pub mod Lines
pub mod Bounds
pub mod WaysOut
