pub mod Lengths
pub mod Making
pub mod Showing
pub mod Testing
pub mod Overflows
