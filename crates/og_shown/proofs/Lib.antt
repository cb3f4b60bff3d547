pub mod Found
pub mod Lines
pub mod Copies
pub mod Waits
pub mod Movers
