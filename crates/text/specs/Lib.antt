pub mod Decimals
pub mod Put
pub mod Number
