pub mod Shorts
pub mod Used
