pub mod Decimals
pub mod Puts
pub mod SheetFacts
pub mod Hints
