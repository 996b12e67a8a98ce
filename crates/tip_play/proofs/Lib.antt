pub mod Making
pub mod Cutting
pub mod Transcribing
pub mod Lines
pub mod Reading
pub mod Leaving
pub mod Ending
pub mod Blaming
