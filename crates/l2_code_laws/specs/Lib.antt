pub mod Preserved
pub mod Holding
