pub mod Table
pub mod Example
pub mod RunsByNumber
