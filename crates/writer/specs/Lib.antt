pub mod Writing
pub mod Storing
pub mod Bytes
pub mod Written
