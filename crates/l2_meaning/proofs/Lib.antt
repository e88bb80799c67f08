pub mod Numbers
pub mod Orders
pub mod Loops
pub mod Nowhere
pub mod LoopObjects
pub mod Typed
pub mod Starts
