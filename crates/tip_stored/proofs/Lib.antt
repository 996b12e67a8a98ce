pub mod Answering
pub mod Happening
pub mod Opening
pub mod Parts
pub mod Rising
pub mod TakingUp
pub mod Renewals
