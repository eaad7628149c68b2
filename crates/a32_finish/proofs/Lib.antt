-- Laws of the definitions.
pub mod Answers
pub mod Branches
pub mod Frame
pub mod SameAsChip
