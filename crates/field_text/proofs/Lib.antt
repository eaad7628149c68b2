pub mod Steps
pub mod Shapes
pub mod Fields
pub mod Room
