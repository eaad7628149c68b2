-- Laws of the calls.
pub mod Untouched
