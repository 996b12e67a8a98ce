pub mod Findings
pub mod Tallies
