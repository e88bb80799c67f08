pub mod Backwards
pub mod Flat
pub mod Texts
