pub mod Weighing
pub mod Ranges
pub mod Answering
pub mod Told
