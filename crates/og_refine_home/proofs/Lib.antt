pub mod Places
pub mod Sharers
pub mod Requests
pub mod Revisions
pub mod Counts
pub mod Taken
pub mod Stays
