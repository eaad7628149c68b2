-- A32 loads and stores described and finished, in a state of words.
pub mod Calls
