pub mod Ahead
pub mod Declared
