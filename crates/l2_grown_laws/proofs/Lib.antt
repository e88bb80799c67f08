pub mod Ties
pub mod Runs
pub mod Asked
