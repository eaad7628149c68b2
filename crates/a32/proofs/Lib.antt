-- Laws of the call.
pub mod Describing
pub mod Laws
