pub mod Checks
pub mod Law
pub mod Said
