pub mod Shapes
pub mod Record
pub mod Readings
pub mod Five
pub mod Every
