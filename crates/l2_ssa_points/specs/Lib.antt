pub mod Goals
pub mod Places
pub mod Meanings
pub mod Law
