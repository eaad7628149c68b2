pub mod Numbers
pub mod Found
pub mod Places
pub mod Codec
pub mod Domains
