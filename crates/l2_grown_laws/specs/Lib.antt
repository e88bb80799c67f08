pub mod Questions
pub mod Grown
pub mod Law
