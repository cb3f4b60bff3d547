pub mod Sorted
pub mod Enabled
pub mod Drawn
pub mod Refused
pub mod Order
pub mod OneRun
