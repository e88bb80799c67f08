pub mod Law
pub mod Behind
