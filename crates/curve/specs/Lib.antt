pub mod Figures
pub mod Rows
pub mod Step
pub mod Found
