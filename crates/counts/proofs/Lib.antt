pub mod Tables
pub mod Tallied
