pub mod Bounded
pub mod Going
pub mod Pushed
pub mod Whole
