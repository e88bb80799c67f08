pub mod Constants
pub mod Words
pub mod Headers
pub mod Directives
