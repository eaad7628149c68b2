pub mod Number
pub mod Section
pub mod Log
pub mod Look
