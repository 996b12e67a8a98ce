pub mod Answered
pub mod Dialogues
pub mod Fronts
pub mod Parts
pub mod Sent
