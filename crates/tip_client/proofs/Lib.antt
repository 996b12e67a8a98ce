pub mod Fronts
pub mod Listening
pub mod Playing
