pub mod Computed
pub mod Declaring
pub mod Following
pub mod Joining
pub mod Moments
