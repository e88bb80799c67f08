pub mod Rows
pub mod Weaker
pub mod TreeWeaker
pub mod Reaching
pub mod Greedy
pub mod TreeRows
pub mod Falling
