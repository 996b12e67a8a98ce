pub mod Lists
pub mod Entries
pub mod Links
pub mod Kept
pub mod Lending
pub mod Visits
