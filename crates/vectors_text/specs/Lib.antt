-- The words of this crate's contracts.
pub mod SliceLines
pub mod Text
