pub mod Trees
pub mod Spelling
pub mod Units
pub mod Build
