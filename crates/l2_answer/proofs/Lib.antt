pub mod Executions
pub mod Headline
pub mod Listed
pub mod Made
pub mod Requests
pub mod Statuses
