pub mod Rooms
pub mod Makings
pub mod Works
pub mod Growing
pub mod Reacting
pub mod Pursuing
pub mod Needs
pub mod Standing
