pub mod Faults
pub mod Promises
pub mod Acting
pub mod Listening
pub mod Standing
pub mod Halting
