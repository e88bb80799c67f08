pub mod Givens
pub mod Choices
