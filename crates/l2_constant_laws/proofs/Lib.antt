pub mod Small
pub mod Near
