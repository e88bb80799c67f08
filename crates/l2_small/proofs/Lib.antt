pub mod Lists
pub mod Mains
pub mod Rows
pub mod SmallTrees
pub mod Steps
