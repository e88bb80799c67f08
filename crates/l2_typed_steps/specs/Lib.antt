pub mod Direct
pub mod Law
