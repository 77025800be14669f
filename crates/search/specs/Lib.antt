pub mod Held
pub mod Walked
pub mod Terms
pub mod Searched
