pub mod Crashes
pub mod Followed
