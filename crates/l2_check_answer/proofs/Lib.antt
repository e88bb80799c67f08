pub mod Files
pub mod Shown
pub mod Statuses
