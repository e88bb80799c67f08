pub mod Turning
pub mod Filled
pub mod Numbered
pub mod Whole
pub mod AtBottom
pub mod Asked
