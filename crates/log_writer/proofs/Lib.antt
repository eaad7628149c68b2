pub mod Putting
pub mod Tests
pub mod Answers
pub mod Again
