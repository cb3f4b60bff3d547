pub mod Played
pub mod Simulated
pub mod Replayed
pub mod Stormed
