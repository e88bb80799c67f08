pub mod Said
pub mod Events
