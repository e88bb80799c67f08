pub mod Accepting
pub mod Made
pub mod Law
pub mod Verdict
