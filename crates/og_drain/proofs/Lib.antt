pub mod Sums
pub mod Homes
pub mod Processors
pub mod Movers
pub mod Flights
pub mod Machines
pub mod Bounds
