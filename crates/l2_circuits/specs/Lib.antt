pub mod Words
pub mod Products
pub mod Shifts
