pub mod State
pub mod Access
pub mod Act
pub mod Take
pub mod Rows
pub mod Sound
pub mod Laws
