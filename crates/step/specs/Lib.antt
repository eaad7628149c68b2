-- Going on after a trap: the state past the trapped instruction (02, C-17); and beyond the papers, by the Arm manual, whether the
-- instruction counts, and an instruction stepped over.
pub mod Condition
pub mod Step
pub mod Refusal
pub mod Over
pub mod Promise
