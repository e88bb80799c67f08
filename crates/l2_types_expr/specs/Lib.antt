pub mod TypeNames
pub mod Enumerators
pub mod Expressions
