-- The ways through the tests, and laws of the definitions.
pub mod Answers
pub mod Flags
pub mod Frame
pub mod GoesOn
