pub mod Hosted
pub mod Starting
pub mod Ordering
pub mod Recovering
pub mod Renewing
pub mod Refusals
pub mod Usages
