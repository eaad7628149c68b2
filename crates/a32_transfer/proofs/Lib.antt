-- Lemmas that several proofs cite.
pub mod Firsts
pub mod Loaded
