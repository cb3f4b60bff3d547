mod Requests
pub mod Processors
pub mod Mover
