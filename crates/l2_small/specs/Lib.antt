pub mod SmallTrees
pub mod Words
pub mod SmallForm
