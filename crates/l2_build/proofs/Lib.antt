pub mod Nodes
pub mod Tails
pub mod Cores
pub mod Goes
