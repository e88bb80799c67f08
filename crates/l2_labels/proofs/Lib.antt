pub mod Carried
pub mod Runs
pub mod Kept
pub mod Steps
pub mod Weights
