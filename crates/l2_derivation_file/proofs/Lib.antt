pub mod Residues
pub mod Files
