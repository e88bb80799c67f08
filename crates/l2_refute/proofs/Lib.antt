pub mod Logs
pub mod All
