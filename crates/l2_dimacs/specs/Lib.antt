pub mod Tokens
pub mod Profile
pub mod Reading
