pub mod Feature
pub mod Mask
pub mod Judge
