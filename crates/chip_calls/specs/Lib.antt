-- What the chip's registers say, and why an abort came, by numbers and words.
pub mod Calls
