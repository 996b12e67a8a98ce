pub mod Branches
pub mod Configurations
pub mod Documents
pub mod Faults
pub mod Limits
pub mod Reasons
pub mod Realms
pub mod Refusals
