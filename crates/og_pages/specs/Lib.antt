pub mod State
pub mod Rows
pub mod Invariant
pub mod Run
pub mod Claims
pub mod Pools
pub mod TlbSlots
