pub mod Images
pub mod Choices
