pub mod Rows
pub mod Copies
pub mod Parts
pub mod Ends
pub mod Sound
