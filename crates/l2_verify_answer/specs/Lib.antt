pub mod Bounds
pub mod Decided
pub mod Verifies
pub mod Law
