pub mod Flat
pub mod Runs
pub mod Law
pub mod Refused
