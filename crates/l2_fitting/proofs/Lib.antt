pub mod Passes
pub mod Spelling
