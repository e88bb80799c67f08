pub mod Least
pub mod Refusing
pub mod Made
pub mod Sole
pub mod Fitted
pub mod Verdict
