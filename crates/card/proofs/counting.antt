-- Laws that serve the functions of `card::counting` alone.
mod Cases
