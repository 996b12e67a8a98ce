pub mod Faults
pub mod Endings
pub mod Transcripts
pub mod Writing
pub mod Leaving
pub mod Refusals
