pub mod Caches
pub mod Letters
pub mod Processors
pub mod Homes
pub mod Movers
pub mod Machines
