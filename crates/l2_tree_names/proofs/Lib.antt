pub mod Rounds
pub mod Folds
pub mod Numbers
pub mod Names
pub mod BasePlaces
