pub mod Kinds
pub mod Values
pub mod Faults
pub mod Stores
pub mod Given
