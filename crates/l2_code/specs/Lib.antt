pub mod Trees
pub mod Values
pub mod Machine
pub mod Sets
pub mod Modes
pub mod WellFormed
pub mod Sizes
