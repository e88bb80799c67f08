pub mod Room
pub mod Cut
pub mod Before
pub mod Signs
pub mod Moves
pub mod Quotients
pub mod BitByBit
pub mod Conversions
