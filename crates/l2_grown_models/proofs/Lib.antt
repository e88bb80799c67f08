pub mod Models
pub mod Gates
pub mod Filling
