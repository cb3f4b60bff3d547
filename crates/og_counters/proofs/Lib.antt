pub mod Sums
pub mod Changes
pub mod Found
pub mod Steps
