-- Exceptions of a guest by numbers and words.
pub mod Asked
pub mod Calls
