pub mod Starts
pub mod Reached
pub mod Moves
pub mod Sorts
pub mod Whole
