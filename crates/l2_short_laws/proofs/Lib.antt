pub mod Likes
pub mod Entered
pub mod Breaking
pub mod Idle
pub mod Uses
pub mod Takes
pub mod Finding
