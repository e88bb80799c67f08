pub mod Said
pub mod Fitting
pub mod Passing
