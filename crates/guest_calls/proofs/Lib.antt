-- Laws of the calls.
pub mod Corrections
pub mod Untouched
