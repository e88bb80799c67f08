pub mod Spelt
pub mod Certified
