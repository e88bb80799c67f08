pub mod Steps
pub mod Counting
pub mod Keeping
pub mod Lists
pub mod Sets
