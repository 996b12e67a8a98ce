pub mod Agreement
pub mod Examples
pub mod Processes
