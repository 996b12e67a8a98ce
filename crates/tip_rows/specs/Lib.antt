pub mod Labels
pub mod Keys
pub mod Branches
pub mod Rows
pub mod Logs
pub mod Memory
pub mod Reading
pub mod Refusals
