pub mod Widths
pub mod NewPlaces
pub mod HeldReads
pub mod ListedStretches
