pub mod RoundTrip
pub mod Given
pub mod Answers
pub mod InTurn
pub mod Older
