pub mod Pieces
pub mod Spelling
pub mod Clauses
pub mod Rest
pub mod Whole
pub mod Once
