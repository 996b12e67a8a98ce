pub mod Ended
pub mod Followed
