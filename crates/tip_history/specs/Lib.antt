pub mod Sayings
pub mod Making
pub mod Histories
pub mod Alone
pub mod Tellings
