pub mod Letters
pub mod Packing
pub mod Rising
