pub mod Choices
pub mod Stopped
pub mod Walks
pub mod Running
pub mod Flown
pub mod Lawful
pub mod Letters
pub mod Refusals
