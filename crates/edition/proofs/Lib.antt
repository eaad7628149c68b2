pub mod Masks
pub mod Judgement
pub mod Everywhere
