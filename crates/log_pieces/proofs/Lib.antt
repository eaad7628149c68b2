pub mod Shown
pub mod Seen
pub mod Placed
pub mod Room
pub mod Written
