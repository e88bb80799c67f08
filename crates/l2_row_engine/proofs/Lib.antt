pub mod Standing
pub mod Answering
pub mod Formulas
pub mod Fronting
