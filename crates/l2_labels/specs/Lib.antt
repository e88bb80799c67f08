pub mod Labels
pub mod Spliced
pub mod Law
