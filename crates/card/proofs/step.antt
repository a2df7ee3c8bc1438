-- Laws that serve the functions of `card::step` alone.
mod Cases
