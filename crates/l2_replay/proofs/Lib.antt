pub mod Loops
pub mod Mains
pub mod Results
pub mod Steps
pub mod Weights
