pub mod Elaboration
pub mod Tables
pub mod Founds
pub mod Spelling
