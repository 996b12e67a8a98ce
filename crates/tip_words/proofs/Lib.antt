pub mod Naming
mod Joining
mod Chains
