pub mod Keys
pub mod Bounds
pub mod Walks
pub mod Names
