pub mod States
pub mod Lexing
pub mod Code
pub mod Laws
