pub mod Cursor
pub mod File
pub mod Reading
