pub mod Shown
pub mod Waits
pub mod Laws
