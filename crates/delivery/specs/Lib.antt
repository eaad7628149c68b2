-- A delivery step on a guest's state, by request C-19 of document 02.
pub mod Row
pub mod Answer
pub mod Deliver
pub mod Promise
