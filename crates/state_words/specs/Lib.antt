-- A guest's state as 48 words.
pub mod Words
pub mod Lent
