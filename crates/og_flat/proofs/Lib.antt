pub mod Start
pub mod Lines
pub mod Keeping
pub mod Begun
