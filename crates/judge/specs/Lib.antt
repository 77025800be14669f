pub mod Judged
pub mod Makers
