pub mod Slot
pub mod Laws
