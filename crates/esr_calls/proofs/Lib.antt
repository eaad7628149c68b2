-- Laws of the calls.
pub mod NoRecord
