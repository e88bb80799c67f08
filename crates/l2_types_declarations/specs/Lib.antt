pub mod Forms
pub mod Names
pub mod Parameters
pub mod Initialisers
pub mod Declarations
