pub mod Worked
pub mod Table
pub mod Example
pub mod Demands
pub mod StartNone
pub mod RunsByNumber
pub mod Returned
