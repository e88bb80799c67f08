pub mod Spots
pub mod Literals
pub mod Runs
pub mod Programs
