pub mod Preserving
pub mod Values
pub mod Stores
pub mod Acts
pub mod Starts
