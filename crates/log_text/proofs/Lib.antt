pub mod Room
pub mod CutRoom
