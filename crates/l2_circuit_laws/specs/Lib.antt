pub mod Values
pub mod Law
pub mod Shows
pub mod Making
