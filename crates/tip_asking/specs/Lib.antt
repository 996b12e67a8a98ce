pub mod Asking
pub mod Dialogues
pub mod Sending
pub mod Refusals
