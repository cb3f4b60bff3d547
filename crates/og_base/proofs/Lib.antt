pub mod SameNames
pub mod First
pub mod FoundPlaces
