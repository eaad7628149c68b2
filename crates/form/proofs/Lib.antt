pub mod Calls
pub mod Verdicts
pub mod Forms
pub mod Shows
pub mod Demand2
pub mod Demand3
pub mod Numbers
pub mod Promises
