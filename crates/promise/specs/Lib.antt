-- What a call promises.
pub mod Promise
