pub mod Operands
pub mod Places
pub mod Scopes
pub mod Steps
pub mod Labels
pub mod Loops
pub mod Typed
