pub mod Stepping
pub mod TakingUp
pub mod Renewals
pub mod Naming
pub mod Usages
