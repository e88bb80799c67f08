pub mod Points
pub mod Raising
pub mod Bounding
