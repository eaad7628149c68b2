-- The laws of the fault status words.
pub mod Levels
pub mod Domains
pub mod Masks
