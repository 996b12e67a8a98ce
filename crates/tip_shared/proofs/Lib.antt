pub mod Crossing
pub mod Stepping
pub mod Errands
pub mod Writings
pub mod Closings
