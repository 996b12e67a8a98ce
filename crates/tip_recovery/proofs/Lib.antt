pub mod Giving
pub mod Rereading
pub mod Looking
pub mod Readying
