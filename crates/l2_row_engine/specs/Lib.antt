pub mod Cutting
pub mod Fitting
pub mod Fronts
pub mod Indexes
pub mod Telling
