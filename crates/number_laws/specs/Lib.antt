pub mod Order
pub mod Fractions
pub mod Lists
pub mod Written
pub mod Zeros
