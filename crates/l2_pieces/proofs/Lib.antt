pub mod Spelled
pub mod Cuts
