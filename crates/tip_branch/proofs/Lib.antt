pub mod Walks
pub mod Accounting
pub mod Places
pub mod Keeping
pub mod Enrolling
