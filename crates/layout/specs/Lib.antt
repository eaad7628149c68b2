pub mod Fields
pub mod Explained
