pub mod Tables
pub mod Places
pub mod Standing
pub mod Sql
pub mod Reading
pub mod Refusals
