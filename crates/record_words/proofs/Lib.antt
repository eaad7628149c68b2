-- A law that the proofs here cite, and crate a32_words.
pub mod Placed
