pub mod Aims
pub mod Turning
pub mod Outlooks
pub mod Subordinates
pub mod Naming
pub mod Nexts
