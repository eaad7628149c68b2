-- Laws of the answer, and of the definitions.
pub mod Answers
pub mod Codes
