pub mod Meaning
pub mod Execution
pub mod Rising
pub mod Scopes
pub mod Pointing
pub mod Changes
pub mod Thresholds
pub mod Lawful
