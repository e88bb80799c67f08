pub mod Texts
pub mod Arms
pub mod Told
pub mod Shown
pub mod Statuses
