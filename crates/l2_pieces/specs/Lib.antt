pub mod Bytes
pub mod Punctuators
pub mod Fronts
pub mod Pieces
pub mod Laws
