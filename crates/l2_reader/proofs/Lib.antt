pub mod Parts
pub mod Stepping
pub mod Counting
pub mod Rooms
pub mod Refusals
pub mod Turning
pub mod Sizes
