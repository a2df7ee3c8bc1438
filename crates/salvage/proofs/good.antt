-- What serves the writer of the good trace.
pub mod Copies
pub mod Keeps
