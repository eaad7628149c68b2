-- Going on from a trap, in a state of words.
pub mod Calls
