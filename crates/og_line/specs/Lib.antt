pub mod Line
pub mod Access
pub mod Laws
