pub mod Moves
pub mod Flats
