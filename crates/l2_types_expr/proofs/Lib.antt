pub mod Arguments
pub mod Weights
pub mod Names
pub mod Bodies
