pub mod Asking
pub mod Law
pub mod Filling
