-- Lemmas that several proofs cite, and from `Answers` on the laws of the definitions.
pub mod Answers
pub mod Frame
pub mod Valid
