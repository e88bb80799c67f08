pub mod Inclusions
pub mod Ordered
pub mod Rows
pub mod Edges
pub mod Valuation
pub mod Closing
