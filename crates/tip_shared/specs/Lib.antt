pub mod Closed
pub mod Sessions
pub mod Refusals
pub mod Waiting
