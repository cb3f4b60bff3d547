pub mod Unique
pub mod Numbers
pub mod Lengths
pub mod Programs
pub mod Replayed
