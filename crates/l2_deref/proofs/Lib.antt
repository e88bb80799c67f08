pub mod Among
pub mod Agreeing
pub mod Alike
