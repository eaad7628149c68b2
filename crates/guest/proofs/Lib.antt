-- Lemmas that several proofs cite, and from `Answers` on the laws of the definitions.
pub mod Answers
pub mod Outcome
pub mod Vectors
pub mod Again
pub mod Unmarked
pub mod Domain
