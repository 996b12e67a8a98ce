pub mod Answers
pub mod Dialogues
pub mod Faults
pub mod Hearing
