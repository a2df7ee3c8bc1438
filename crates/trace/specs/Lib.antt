pub mod Number
pub mod Reading
pub mod Events
pub mod Spelling
pub mod Writing
pub mod Trace
pub mod Answers
pub mod Bounds
