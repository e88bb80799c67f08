pub mod Fills
pub mod Formulas
pub mod Numbers
pub mod Kept
