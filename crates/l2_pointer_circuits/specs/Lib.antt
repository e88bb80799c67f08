pub mod Words
pub mod Tests
pub mod Flags
pub mod Shows
pub mod Law
