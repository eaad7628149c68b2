pub mod Fits
pub mod Exact
pub mod Had
