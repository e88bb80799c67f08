pub mod Weights
pub mod Missing
pub mod Accepted
pub mod Answering
