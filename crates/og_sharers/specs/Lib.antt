pub mod SetLaws
pub mod Sets
