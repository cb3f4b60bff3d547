pub mod Images
pub mod Tools
