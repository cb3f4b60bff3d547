pub mod Ranks
pub mod Slots
pub mod Receivers
pub mod Kept
pub mod Posting
