-- A32 loads and stores as words.
pub mod Words
