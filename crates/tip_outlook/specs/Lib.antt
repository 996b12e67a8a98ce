pub mod Searches
pub mod Turns
pub mod Noting
pub mod Deciding
pub mod Wanting
pub mod Endings
