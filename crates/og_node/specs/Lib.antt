pub mod Node
pub mod Kept
pub mod Rows
pub mod Laws
