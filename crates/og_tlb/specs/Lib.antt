pub mod Tlb
pub mod Laws
