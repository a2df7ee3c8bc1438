-- Laws that serve the functions of `card::places` alone.
mod Copies
mod Searches
