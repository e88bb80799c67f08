pub mod Checked
pub mod Types
pub mod Names
pub mod Programs
