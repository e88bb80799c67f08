pub mod Spots
pub mod Law
