pub mod Finish
pub mod Laws
pub mod Parts
