pub mod Laws
pub mod Oldest
pub mod PageTable
