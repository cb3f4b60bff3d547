pub mod Digits
pub mod Heads
pub mod Lines
pub mod Readings
pub mod Roundtrip
pub mod Uniqueness
pub mod Words
pub mod Written
