pub mod RoundTrip
pub mod Unexplained
