pub mod Keeping
pub mod Errands
pub mod Recovering
pub mod Loading
pub mod Renewing
pub mod Refusals
