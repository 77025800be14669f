pub mod Part
pub mod Shares
