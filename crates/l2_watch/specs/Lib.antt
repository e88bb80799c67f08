pub mod Past
pub mod Watch
pub mod Visit
pub mod Look
pub mod Handled
pub mod Board
