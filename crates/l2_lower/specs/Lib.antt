pub mod Emitting
pub mod Statements
pub mod Code
pub mod Output
pub mod Alike
pub mod Operands
