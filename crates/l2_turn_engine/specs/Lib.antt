pub mod Lists
pub mod Fills
pub mod Kept
pub mod Telling
