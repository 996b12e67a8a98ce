pub mod Successors
pub mod Telling
pub mod Truth
