pub mod Values
pub mod Ties
