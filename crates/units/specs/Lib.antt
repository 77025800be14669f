pub mod Units
pub mod Refusals
pub mod Given
