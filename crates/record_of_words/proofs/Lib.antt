-- Laws that other crates cite.
pub mod Alike
pub mod RoundTrip
