pub mod Adopting
pub mod Renewing
pub mod Refusals
