pub mod Read
pub mod ValuesFile
