pub mod Renumbered
pub mod Fronted
