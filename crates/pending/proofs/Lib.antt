pub mod Round
pub mod Lists
pub mod Queues
pub mod Choices
pub mod Steps
pub mod Runs
pub mod Reached
pub mod Bound
