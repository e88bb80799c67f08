pub mod Greedy
pub mod Search
