pub mod Stores
pub mod Keeping
