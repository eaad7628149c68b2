pub mod Calls
pub mod AsFound
