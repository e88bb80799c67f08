pub mod Gathering
pub mod Entries
