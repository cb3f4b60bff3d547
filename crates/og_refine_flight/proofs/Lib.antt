mod Inserted
pub mod Order
