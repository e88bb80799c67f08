pub mod Declarators
pub mod Rounds
pub mod Specifiers
pub mod Numbers
