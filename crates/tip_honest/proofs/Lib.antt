pub mod More
pub mod Onward
pub mod Standing
pub mod Chained
pub mod Agreed
pub mod Boxes
pub mod Hosting
