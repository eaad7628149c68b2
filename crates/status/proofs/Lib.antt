-- Lemmas that several proofs cite, and from `Fields` on the laws of the definitions.
pub mod Masks
pub mod Fields
pub mod Again
pub mod Modes
pub mod Registers
pub mod Unmarked
pub mod Saved
pub mod Written
pub mod Advance
