pub mod Declarators
pub mod Functions
pub mod Inserted
pub mod Counted
pub mod Grown
pub mod Known
