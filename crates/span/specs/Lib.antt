pub mod Figures
pub mod Corners
pub mod Prepared
pub mod Begun
pub mod Answered
