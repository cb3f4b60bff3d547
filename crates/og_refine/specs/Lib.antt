pub mod Machines
pub mod Charges
pub mod Names
pub mod Laws
