pub mod AlikeKinds
pub mod Heads
pub mod Uses
pub mod Filling
pub mod Formulas
pub mod Finding
