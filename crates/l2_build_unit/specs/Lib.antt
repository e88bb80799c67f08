pub mod Statements
pub mod Branches
