pub mod Firsts
pub mod Sorting
pub mod Order
