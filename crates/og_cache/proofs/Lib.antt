pub mod Sets
pub mod Copies
pub mod Kept
pub mod Changes
pub mod Seen
