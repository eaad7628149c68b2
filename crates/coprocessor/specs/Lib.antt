-- A coprocessor read or write that is finished. Beyond the papers, by the Arm manual.
pub mod Answer
pub mod Flags
pub mod Finish
pub mod Promise
