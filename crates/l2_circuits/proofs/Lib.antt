pub mod Passing
pub mod Bits
