pub mod Decisions
pub mod Parts
pub mod Tallies
pub mod Transactions
pub mod Refusals
