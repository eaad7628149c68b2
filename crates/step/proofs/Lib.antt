-- The ways through the tests, and from `Having` on the laws of the definitions.
pub mod Answers
pub mod Having
pub mod Conditions
pub mod Frame
