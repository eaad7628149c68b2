-- A32 loads and stores in a guest's state, by request C-18 of document 02.
pub mod Promise
