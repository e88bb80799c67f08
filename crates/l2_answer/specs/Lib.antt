pub mod Answers
pub mod Generates
pub mod Headline
pub mod Printed
pub mod Replays
pub mod Shows
pub mod Statuses
pub mod Stores
