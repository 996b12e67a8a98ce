pub mod Commands
pub mod Orders
