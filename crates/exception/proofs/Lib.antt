-- Lemmas that several proofs cite, and from `Vectors` on the laws of exception entry, over every row.
pub mod Changed
pub mod Vectors
pub mod Registers
pub mod Again
