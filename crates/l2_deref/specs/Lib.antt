pub mod Candidates
pub mod Among
pub mod Law
