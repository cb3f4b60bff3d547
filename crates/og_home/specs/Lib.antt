pub mod Home
pub mod Kept
pub mod Start
