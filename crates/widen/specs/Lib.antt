-- The change of a short record to a long one, by request C-11 of document 02.
pub mod Register
pub mod Long
pub mod Kept
pub mod Widening
