pub mod Numbers
pub mod Trap
pub mod Answer
pub mod Both
pub mod Base
