pub mod Holding
pub mod RowLists
pub mod Strength
