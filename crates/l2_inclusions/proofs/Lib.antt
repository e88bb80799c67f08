pub mod Having
pub mod Numbers
pub mod Sharing
pub mod Walks
pub mod Settled
pub mod Due
pub mod Forced
pub mod Holding
