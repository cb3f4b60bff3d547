pub mod Numbers
pub mod Caches
pub mod Tlbs
pub mod Pages
