-- The word of an A32 load or store from its form and its fields, by words.
pub mod Calls
