pub mod Open
pub mod Deep
pub mod Depths
mod Refused
pub mod OneRefusal
pub mod Places
mod Unique
pub mod Wholes
