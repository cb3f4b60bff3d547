pub mod Apart
pub mod Faultless
pub mod Order
pub mod Programs
