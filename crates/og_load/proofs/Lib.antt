pub mod Images
pub mod Texts
