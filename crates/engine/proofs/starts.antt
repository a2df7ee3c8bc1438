-- Laws of the search for where the parts of a read's outcomes start.
pub mod TallyLists
