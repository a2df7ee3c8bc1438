pub mod Decimal
pub mod Sheet
pub mod Desk
pub mod Writing
