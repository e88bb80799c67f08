pub mod Agreeing
pub mod Plain
pub mod Runs
