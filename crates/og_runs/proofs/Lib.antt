-- what a log says of its actor's history
pub mod Locals
-- sorted logs are a run
pub mod Forward
-- what a run keeps
pub mod Back
pub mod RunLaws
-- data and histories go together
pub mod Placed
pub mod Shown
pub mod Whole
pub mod Sorts
pub mod Views
pub mod Seats
pub mod Young
pub mod Stated
pub mod StatedLogs
