pub mod Digits
pub mod Appending
pub mod Chunks
pub mod Numerals
