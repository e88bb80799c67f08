pub mod Commands
pub mod Statuses
pub mod Texts
pub mod Formulas
pub mod Answers
pub mod Laws
