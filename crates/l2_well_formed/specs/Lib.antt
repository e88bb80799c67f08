pub mod Expressions
pub mod WellFormed
