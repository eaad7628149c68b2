pub mod Shapes
pub mod Record
pub mod Every
