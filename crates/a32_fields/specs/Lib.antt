-- The fields of A32 loads and stores, by request C-18 of document 02 and the Arm manual's encodings A1.
pub mod Code
pub mod Layout
pub mod Split
