pub mod Saying
pub mod Law
pub mod Eventing
