pub mod Lists
pub mod Write
