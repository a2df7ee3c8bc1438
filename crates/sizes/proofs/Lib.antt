pub mod Figures
pub mod RanFacts
pub mod RoomFacts
pub mod Hints
