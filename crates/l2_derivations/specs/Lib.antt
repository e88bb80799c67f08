pub mod Goals
pub mod Problems
pub mod Sizes
