pub mod Driven
pub mod Tallied
