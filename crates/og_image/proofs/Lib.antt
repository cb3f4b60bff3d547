pub mod Numbers
pub mod Ordering
pub mod Pages
pub mod Passes
pub mod Places
pub mod Placed
