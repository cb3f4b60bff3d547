pub mod Command
pub mod Threaded
