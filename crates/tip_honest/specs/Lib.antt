pub mod Honesty
pub mod Hosts
