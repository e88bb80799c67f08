pub mod Bools
pub mod Values
pub mod Made
