pub mod Next
pub mod Drawing
pub mod Counting
pub mod Following
