pub mod Domains
pub mod Forms
pub mod Points
pub mod Rows
