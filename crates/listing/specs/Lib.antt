pub mod Promise
pub mod Finished
