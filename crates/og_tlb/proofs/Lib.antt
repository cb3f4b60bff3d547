pub mod Emptied
pub mod Fills
pub mod Seen
