pub mod OfStates
pub mod Tells
