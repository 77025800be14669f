pub mod Reading
pub mod Passing
pub mod Filling
pub mod Answering
