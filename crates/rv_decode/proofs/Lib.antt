pub mod Groups
pub mod Apart
pub mod Reassembly
