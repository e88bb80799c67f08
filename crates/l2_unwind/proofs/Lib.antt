pub mod CutRuns
pub mod Weights
