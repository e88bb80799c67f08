pub mod Entering
pub mod Rankings
pub mod Events
