-- Whole traps read with records in words.
pub mod Whole
