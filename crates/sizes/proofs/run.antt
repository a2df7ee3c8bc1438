pub mod WaysOut
pub mod Totals
pub mod Turns
pub mod Ends
