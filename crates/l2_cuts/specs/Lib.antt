pub mod Points
pub mod Cuts
pub mod Turns
pub mod Rankings
pub mod Strongest
