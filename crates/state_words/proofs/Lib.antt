-- Laws that other crates cite, and one that the proofs here do.
pub mod Copy
pub mod RoundTrip
