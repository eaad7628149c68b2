-- A law of the definitions.
pub mod Back
