-- Laws of one read on the areas of a card.
pub mod Families
pub mod NewTotals
pub mod ReadLaws
