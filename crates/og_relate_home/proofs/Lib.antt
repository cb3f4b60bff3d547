pub mod Rows
pub mod Upgrades
pub mod Revisions
pub mod Poison
pub mod Taken
pub mod Table
