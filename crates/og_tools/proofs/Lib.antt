pub mod Images
pub mod Programs
pub mod Sources
