pub mod Walks
pub mod Fills
