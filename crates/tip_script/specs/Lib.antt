pub mod Scripts
pub mod Moves
