pub mod Hold
pub mod ModeBits
