pub mod Exceeding
