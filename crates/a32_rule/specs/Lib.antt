-- Which words are A32 loads and stores, by request C-18 of document 02 and the Arm manual's encodings A1.
pub mod Rule
pub mod Legal
pub mod Answer
pub mod Inner
