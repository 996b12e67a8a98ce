pub mod Giving
pub mod Running
pub mod Starts
pub mod Moves
pub mod Runs
pub mod Halts
pub mod Refined
pub mod Refusals
