-- Laws that other crates cite.
pub mod RoundTrip
pub mod Numbers
