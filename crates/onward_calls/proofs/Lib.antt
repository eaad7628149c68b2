-- Laws of the calls.
pub mod Untouched
pub mod NoRecord
