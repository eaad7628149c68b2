pub mod Feature
pub mod Refusal
pub mod Why
