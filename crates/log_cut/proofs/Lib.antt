pub mod Rests
pub mod Standings
pub mod Given
pub mod Accepted
