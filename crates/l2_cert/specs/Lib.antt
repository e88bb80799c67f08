pub mod Certificate
pub mod Cursor
pub mod Kept
pub mod Machine
pub mod Reading
pub mod Words
