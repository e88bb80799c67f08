pub mod Orders
pub mod Forms
pub mod Lines
