pub mod TakenRows
pub mod Slots
pub mod Parts
pub mod Hits
pub mod Invalidations
pub mod Walks
pub mod Interventions
