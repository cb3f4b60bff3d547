pub mod Began
pub mod Unhindered
