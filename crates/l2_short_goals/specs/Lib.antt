pub mod Shorts
pub mod Taken
pub mod Kept
