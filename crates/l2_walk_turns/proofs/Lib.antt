mod Merging
mod Rows
mod Stepping
mod Landing
