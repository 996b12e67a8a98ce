pub mod Audit
pub mod Fits
pub mod Journal
pub mod Journals
pub mod Pass
pub mod Retiring
pub mod Sheets
pub mod Refusals
