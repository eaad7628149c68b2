pub mod Asked
pub mod Why
pub mod Room
