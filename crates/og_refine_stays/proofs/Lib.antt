mod Named
mod Acts
mod Takes
pub mod Stays
