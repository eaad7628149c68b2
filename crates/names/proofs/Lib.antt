pub mod Cut
pub mod Dense
pub mod Tables
pub mod Room
