pub mod Shown
pub mod Ends
pub mod Rounds
pub mod Nodes
pub mod Entering
pub mod Safe
pub mod Solved
pub mod Named
