-- An A32 load or store that the chip doesn't describe, finished. Beyond the papers, by the Arm manual and requests C-17 and C-18 of
-- document 02.
pub mod Answer
pub mod Branch
pub mod Finish
pub mod Promise
