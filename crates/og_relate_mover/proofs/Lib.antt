pub mod Events
pub mod PageEvents
pub mod Holders
pub mod BlockEvents
pub mod Notices
