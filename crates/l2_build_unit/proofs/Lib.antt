pub mod Labels
pub mod Lasts
pub mod Grown
pub mod Branching
pub mod Results
