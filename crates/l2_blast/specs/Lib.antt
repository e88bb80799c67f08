pub mod Sorts
pub mod Words
pub mod Blasting
pub mod Kept
