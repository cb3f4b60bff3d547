pub mod Accepted
pub mod Command
pub mod Exit
pub mod Names
pub mod Runs
pub mod Tools
