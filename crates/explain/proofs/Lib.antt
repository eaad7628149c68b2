pub mod Room
pub mod Lengthening
