-- Lemmas that several proofs cite, and from `Answers` on the laws of the return.
pub mod Places
pub mod Answers
pub mod Sames
pub mod Backs
pub mod Nests
