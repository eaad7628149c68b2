pub mod Word
pub mod Trap
pub mod Inner
