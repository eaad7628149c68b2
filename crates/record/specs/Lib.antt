pub mod Origin
pub mod Class
pub mod Sort
pub mod Addresses
pub mod Split
