pub mod Kind
pub mod Events
pub mod Link
pub mod HomeEntry
pub mod Messages
pub mod Claims
pub mod Example
pub mod Races
