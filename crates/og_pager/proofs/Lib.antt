pub mod Eldest
pub mod Firsts
pub mod Frames
pub mod Kept
pub mod Seen
