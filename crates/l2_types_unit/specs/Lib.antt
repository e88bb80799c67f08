pub mod Words
pub mod Defined
pub mod Calls
pub mod Faults
pub mod Units
pub mod Typed
