-- The laws of the delivery step.
pub mod Answers
pub mod Frame
pub mod Runs
