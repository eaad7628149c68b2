pub mod Lines
pub mod Cut
