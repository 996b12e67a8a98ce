pub mod Desks
pub mod Refusals
pub mod Sessions
pub mod Ends
pub mod Written
