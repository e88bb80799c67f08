pub mod Nodes
pub mod Asked
pub mod Handed
