pub mod Instance
pub mod Steps
pub mod Promises
pub mod Demand2
pub mod Demand3
pub mod Refusals
pub mod Everywhere
pub mod Made
