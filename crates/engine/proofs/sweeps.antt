-- Laws of a read on all rows.
pub mod Clamps
pub mod Exchanges
pub mod Halfways
pub mod Stills
pub mod Turns
