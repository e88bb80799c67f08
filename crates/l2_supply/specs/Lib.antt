pub mod Supply
pub mod Going
