pub mod Folds
pub mod Suffixes
pub mod Rows
pub mod Items
pub mod Declarators
pub mod Same
pub mod Widened
