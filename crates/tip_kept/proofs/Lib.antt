pub mod Placing
pub mod Realms
