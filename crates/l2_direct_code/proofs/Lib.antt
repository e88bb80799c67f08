pub mod Direct
pub mod Labelled
