-- Laws of lists of stretches.
pub mod PairLists
pub mod PairLaws
pub mod PairFacts
pub mod Copies
