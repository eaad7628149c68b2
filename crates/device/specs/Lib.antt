-- A guest's load or store that is finished (02, request C-17).
pub mod Answer
pub mod Finish
pub mod Promise
