pub mod Packed
pub mod Short
pub mod A32
