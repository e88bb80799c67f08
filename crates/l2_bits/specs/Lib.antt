pub mod Bits
pub mod Operators
pub mod Types
pub mod Values
pub mod Widths
