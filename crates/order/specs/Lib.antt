pub mod Groups
pub mod Merges
pub mod Levels
pub mod Orders
