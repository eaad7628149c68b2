pub mod Fits
pub mod Tests
pub mod Exact
pub mod Had
