pub mod Answer
pub mod Call
pub mod Form
pub mod Promise
