pub mod Ranked
pub mod Answering
