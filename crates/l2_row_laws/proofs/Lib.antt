pub mod Coming
pub mod Failing
pub mod Strongest
