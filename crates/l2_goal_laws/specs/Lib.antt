pub mod Fits
pub mod Filling
pub mod Models
pub mod Below
pub mod Law
