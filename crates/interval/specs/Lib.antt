pub mod Figures
pub mod Asked
