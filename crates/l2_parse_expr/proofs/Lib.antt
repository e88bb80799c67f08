mod Places
pub mod BuiltExpressions
