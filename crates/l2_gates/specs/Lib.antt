pub mod Gates
pub mod Models
pub mod Law
