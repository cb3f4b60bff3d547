pub mod Groups
pub mod Names
pub mod Numbers
pub mod Places
pub mod Settings
