pub mod Rows
pub mod Walks
pub mod Entered
pub mod Values
pub mod Usage
